-- Rows by their items, with one more and without some.
use Rattle.std.proofs.Common.{◌≡◌, ◌&&◌, ℕ, Bool, true, false, not, cond, List, [], ◌∷◌, ◌++◌, map, filter, refl, sym, ◌∙◌, ap, subst}
use Rattle.std.proofs.lemmas.List.{map-append}
use Rattle.gx_pages.specs.declared.row.RowRef.{RowRef}
use Rattle.gx_pages.specs.declared.store.Pages.{Ghosts as PageGhosts}
use Rattle.gx_pages.specs.Rows.{AreBelow}
use Rattle.gx_gist.specs.declared.test.Test.{Test}
use Rattle.gx_gist.specs.declared.test.Test.TheVariants.{No, Maybe, Yes}
use Rattle.gx_gin.specs.Reach.{flags, reaches}
use Rattle.gx_gin.specs.declared.class.GinClass.{Ghosts}
use Rattle.gx_gin_scan.specs.Gins.{HoldsGin}
use Rattle.gx_gin_scan.specs.Lists as gin
use Rattle.gx_gin_scan.specs.Searches.{has}
use Rattle.gx_value.specs.Values.{Datum}
use Rattle.gx_candidates.specs.Candidates.{isnt_no}
use Rattle.gx_index.specs.Beside.{Beside}
use Rattle.gx_index.specs.Items.{HoldsItems, item_passes}
use Rattle.gx_index.specs.Kept.{Valued, places_of}

-- where the rows stand
places_same : {V : Type 0} (datum : V → Datum) (values : List (RowRef × V)) → places_of (map (λ row. (row.0, datum row.1)) values) ≡ map (λ row. row.0) values
places_same datum [] = refl
places_same datum (v ∷ values) = ap (λ (l : List RowRef). v.0 ∷ l) (places_same datum values)

isnt_same : (t : Test) → gin.isnt_no t ≡ isnt_no t
isnt_same No = refl
isnt_same Maybe = refl
isnt_same Yes = refl

module _ {C V Q : Type 0} (g : Ghosts C V Q) (class : C) (datum : V → Datum) {P : Type 0} (p : PageGhosts P) (root : ℕ) (rows : List Valued) (feet free : List ℕ) where
  -- the index of a structure, and its rows
  pub gin_of : (pages : P) (b : Beside p (λ map_ count at. HoldsItems g class datum map_ count root rows at) pages feet free) → HoldsGin p pages root b.held.lists feet free
  gin_of pages b = record { held = b.held.held; frees = b.frees; apart = b.apart }

  pub below_of : (pages : P) (b : Beside p (λ map_ count at. HoldsItems g class datum map_ count root rows at) pages feet free) (n : ℕ) → AreBelow (places_of rows) n → AreBelow (map (λ row. row.0) b.held.values) n
  below_of pages b n below = subst (λ (l : List RowRef). AreBelow l n) (ap (λ (l : List Valued). places_of l) b.held.are ∙ places_same datum b.held.values) below

  pub one_more : (old new : P) (b : Beside p (λ map_ count at. HoldsItems g class datum map_ count root rows at) old feet free) (row : RowRef) (value : V) (d : Datum) → datum value ≡ d → (after : gin.Lists) (later rest : List ℕ)
      → HoldsGin p new root after later rest → gin.IsIndexOf (g.items_of class) after (b.held.values ++ (row, value) ∷ [])
      → Beside p (λ map_ count at. HoldsItems g class datum map_ count root (rows ++ (row, d) ∷ []) at) new later rest
  one_more old new b row value d same after later rest holds index = record {
    held = record {
      values = b.held.values ++ (row, value) ∷ [];
      are =
          ap (λ (l : List Valued). l ++ (row, d) ∷ []) b.held.are ∙ ap (λ (e : Datum). map (λ (r : RowRef × V). (r.0, datum r.1)) b.held.values ++ (row, e) ∷ []) (sym same)
          ∙ sym (map-append (λ (r : RowRef × V). (r.0, datum r.1)) b.held.values ((row, value) ∷ []));
      lists = after;
      held = holds.held;
      index = index;
    };
    frees = holds.frees;
    apart = holds.apart;
  }

  pub some_less : (old new : P) (b : Beside p (λ map_ count at. HoldsItems g class datum map_ count root rows at) old feet free) (gone : List RowRef) (after : gin.Lists) (later rest : List ℕ)
      → HoldsGin p new root after later rest → gin.IsIndexOf (g.items_of class) after (filter (λ row. not (has gone row.0.number)) b.held.values)
      → Beside p (λ map_ count at. HoldsItems g class datum map_ count root (filter (λ row. not (has gone row.0.number)) rows) at) new later rest
  some_less old new b gone after later rest holds index = record {
    held = record {
      values = filter (λ row. not (has gone row.0.number)) b.held.values;
      are = ap (λ (l : List Valued). filter (λ row. not (has gone row.0.number)) l) b.held.are ∙ stay b.held.values;
      lists = after;
      held = holds.held;
      index = index;
    };
    frees = holds.frees;
    apart = holds.apart;
  }
    where
      step : (b : Bool) (v : RowRef × V) (l : List Valued) (k : List (RowRef × V)) → l ≡ map (λ (r : RowRef × V). (r.0, datum r.1)) k → cond b ((v.0, datum v.1) ∷ l) l ≡ map (λ (r : RowRef × V). (r.0, datum r.1)) (cond b (v ∷ k) k)
      step true v l k e = ap (λ (m : List Valued). (v.0, datum v.1) ∷ m) e
      step false v l k e = e

      stay : (values : List (RowRef × V)) → filter (λ (row : Valued). not (has gone row.0.number)) (map (λ (r : RowRef × V). (r.0, datum r.1)) values) ≡ map (λ (r : RowRef × V). (r.0, datum r.1)) (filter (λ (row : RowRef × V). not (has gone row.0.number)) values)
      stay [] = refl
      stay (v ∷ values) =
          step (not (has gone v.0.number)) v (filter (λ (row : Valued). not (has gone row.0.number)) (map (λ (r : RowRef × V). (r.0, datum r.1)) values)) (filter (λ (row : RowRef × V). not (has gone row.0.number)) values) (stay values)

-- what a search finds are the candidates
pub found_are : {C V Q : Type 0} (g : Ghosts C V Q) (class : C) (datum : V → Datum) (query : Q) (finds : Datum → Bool) → ((v : V) → item_passes g class query v ≡ finds (datum v)) → (rows : List Valued) (values : List (RowRef × V))
    → rows ≡ map (λ row. (row.0, datum row.1)) values
    → gin.found (g.items_of class) (g.mode_of class query) (g.wanted_of class query) (g.passes_of class query) values ≡ places_of (filter (λ row. finds row.1) rows)
found_are {C} {V} g class datum query finds test rows values are = walk values ∙ sym (ap (λ (l : List Valued). places_of (filter (λ row. finds row.1) l)) are)
  where
    step : (a b : Bool) (v : RowRef × V) (l k : List (RowRef × V)) (m : List Valued) → a ≡ b → map (λ (row : RowRef × V). row.0) k ≡ places_of m → map (λ (row : RowRef × V). row.0) (cond a (v ∷ k) k) ≡ places_of (cond b ((v.0, datum v.1) ∷ m) m)
    step true true v l k m same e = ap (λ (r : List RowRef). v.0 ∷ r) e
    step true false v l k m same e = cc
    step false true v l k m same e = cc
    step false false v l k m same e = e

    walk : (vs : List (RowRef × V)) → gin.found (g.items_of class) (g.mode_of class query) (g.wanted_of class query) (g.passes_of class query) vs ≡ places_of (filter (λ (row : Valued). finds row.1) (map (λ (row : RowRef × V). (row.0, datum row.1)) vs))
    walk [] = refl
    walk (v ∷ vs) =
        step
        (reaches (g.mode_of class query) (g.wanted_of class query) (g.items_of class v.1) && gin.isnt_no (g.passes_of class query (flags (g.wanted_of class query) (g.items_of class v.1))))
        (finds (datum v.1)) v vs
        (filter (λ (row : RowRef × V). reaches (g.mode_of class query) (g.wanted_of class query) (g.items_of class row.1) && gin.isnt_no (g.passes_of class query (flags (g.wanted_of class query) (g.items_of class row.1)))) vs)
        (filter (λ (row : Valued). finds row.1) (map (λ (row : RowRef × V). (row.0, datum row.1)) vs))
        (ap (λ (b : Bool). reaches (g.mode_of class query) (g.wanted_of class query) (g.items_of class v.1) && b) (isnt_same (g.passes_of class query (flags (g.wanted_of class query) (g.items_of class v.1)))) ∙ test v.1)
        (walk vs)
