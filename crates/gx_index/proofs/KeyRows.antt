-- What rows with their keys come to.
use Rattle.std.proofs.Common.{◌≡◌, ◌≢◌, ℕ, ◌<◌, Bool, true, false, not, cond, List, [], ◌∷◌, ◌++◌, map, All, refl, sym, ◌∙◌, ap, subst, arith}
use Rattle.std.specs.Prelude.{filter, IsPermutation}
use Rattle.std.specs.List.{AllByRecursion}
use Rattle.std.proofs.lemmas.List.Elements.{All-from_recursion}
use Rattle.gx_words.specs.PageMap.{PageMap}
use Rattle.gx_pages.specs.declared.row.RowRef.{RowRef}
use Rattle.gx_pages.specs.declared.store.Pages.{Ghosts as PageGhosts}
use Rattle.gx_pages.specs.Frees.{IsApart}
use Rattle.gx_pages.specs.Rows.{AreBelow, IsRising}
use Rattle.gx_pages.proofs.Rising.{rising_push}
use Rattle.gx_gist.specs.declared.class.GistClass.{Ghosts}
use Rattle.gx_gist_tree.specs.Trees.{passes}
use Rattle.gx_gist_tree.specs.OnPages.{Whole, HoldsBeside, entries_of, footprint, is_in}
use Rattle.gx_value.specs.Values.{Datum}
use Rattle.gx_index.specs.Beside.{Beside}
use Rattle.gx_index.specs.Kept.{HaveSame, HoldsKeys, Valued, places_of}
use Rattle.gx_index.proofs.Among.{of_all, all_of, from, same_permuted, same_trans, same_cons, same_pushed, same_kept, all_kept, all_pushed, in_map, made_of, map_pushed, filter_map_is, kept_rising, same_map, same_rising, same_filter, all_under}

-- the places of rows, whatever stands beside them
module _ {V W : Type 0} (f : V → W) where
  pub same_places : (rows : List (RowRef × V)) → places_of (map (λ row. (row.0, f row.1)) rows) ≡ places_of rows
  same_places [] = refl
  same_places (row ∷ rows) = ap (λ (l : List RowRef). row.0 ∷ l) (same_places rows)

-- Rows of which some are kept still rise.
module _ {V : Type 0} where
  step : (b : Bool) (row : RowRef × V) (rest : List (RowRef × V)) → AllByRecursion (λ (o : RowRef). row.0.number < o.number) (places_of rest) → IsRising (places_of rest)
      → IsRising (places_of (cond b (row ∷ rest) rest))
  step true row rest all rising = (all, rising)
  step false row rest all rising = rising

  all_step : (P : RowRef → Type 0) (b : Bool) (row : RowRef × V) (rest : List (RowRef × V)) → P row.0 → AllByRecursion P (places_of rest) → AllByRecursion P (places_of (cond b (row ∷ rest) rest))
  all_step P true row rest one all = (one, all)
  all_step P false row rest one all = all

  all_places : (P : RowRef → Type 0) (rows : List (RowRef × V)) (p : RowRef × V → Bool) → AllByRecursion P (places_of rows) → AllByRecursion P (places_of (filter p rows))
  all_places P [] p all = tt
  all_places P (row ∷ rows) p all = all_step P (p row) row (filter p rows) all.0 (all_places P rows p all.1)

  pub kept_places : (rows : List (RowRef × V)) (p : RowRef × V → Bool) → IsRising (places_of rows) → IsRising (places_of (filter p rows))
  kept_places [] p rising = tt
  kept_places (row ∷ rows) p rising =
      step (p row) row (filter p rows) (all_places (λ o. row.0.number < o.number) rows p rising.0) (kept_places rows p rising.1)

module _ {P C V Q K : Type 0} (p : PageGhosts P) (g : Ghosts C V Q K) (class : C) (datum : V → Datum) where
  -- a row as an entry
  abbrev entry : RowRef × V → RowRef × K
  entry row = (row.0, g.leaf_of class row.1)

  abbrev pub Kept : P → ℕ → List Valued → List ℕ → List ℕ → Type 0
  Kept pages root rows feet free = Beside p (λ map count at. HoldsKeys g class datum map count root rows at) pages feet free

  pub tree_of : {pages : P} {root : ℕ} {rows : List Valued} {feet free : List ℕ} (kept : Kept pages root rows feet free) → HoldsBeside p g class pages root kept.held.tree free
  tree_of {free = free} kept = record { held = kept.held.held; frees = kept.frees; apart = subst (λ (f : List ℕ). IsApart (f ++ free)) kept.held.stand kept.apart }

  -- the same tree, beside other free pages
  pub still : {old : P} {root : ℕ} {rows : List Valued} {feet free : List ℕ} (kept : Kept old root rows feet free) (new : P) (rest : List ℕ) → HoldsBeside p g class new root kept.held.tree rest
      → Kept new root rows feet rest
  still kept new rest h =
      let k = kept.held in
      record {
        held = record { values = k.values; are = k.are; valid = k.valid; rising = k.rising; tree = k.tree; held = h.held; stand = k.stand; keys = k.keys };
        frees = h.frees;
        apart = subst (λ (f : List ℕ). IsApart (f ++ rest)) (sym k.stand) h.apart;
      }

  pub no_rows : (pages : P) (root : ℕ) (free : List ℕ) → HoldsBeside p g class pages root (0, (root, [])) free → Kept pages root [] (root ∷ []) free
  no_rows pages root free h =
      record {
        held = record { values = []; are = refl; valid = tt; rising = tt; tree = (0, (root, [])); held = h.held; stand = refl; keys = record { there = tt; back = tt } };
        frees = h.frees;
        apart = h.apart;
      }

  -- no entry has a number above all rows
  pub is_new : {pages : P} {root : ℕ} {rows : List Valued} {feet free : List ℕ} (kept : Kept pages root rows feet free) (row : RowRef) → AreBelow (places_of rows) row.number
      → All (λ e. e.0.number ≢ row.number) (entries_of kept.held.tree)
  is_new {rows = rows} kept row below =
      let h = kept.held in
      let under = subst (λ (l : List RowRef). AreBelow l row.number) (ap (λ (l : List Valued). places_of l) h.are ∙ same_places datum h.values) below in
      All-from_recursion (λ e. e.0.number ≢ row.number) (entries_of h.tree)
      (all_of (λ e. e.0.number ≢ row.number) (entries_of h.tree) (λ e i same.
      let made = made_of entry h.values e (from h.keys e i) in
      let less = of_all (λ (r : RowRef). r.number < row.number) (places_of h.values) made.from.0 under (in_map (λ v. v.0) h.values made.from made.among) in
      let there : made.from.0.number ≡ e.0.number = ap (λ (k : RowRef × K). k.0.number) made.is in
      omega (arith, less, there, same)))

  pub with_row : {pages : P} {root : ℕ} {rows : List Valued} {feet free : List ℕ} (kept : Kept pages root rows feet free) (row : RowRef) (value : V) → AreBelow (places_of rows) row.number → g.valid_value class value
      → (new : P) (later : Whole K) (rest : List ℕ) → HoldsBeside p g class new root later rest → IsPermutation ((row, g.leaf_of class value) ∷ entries_of kept.held.tree) (entries_of later)
      → Kept new root (rows ++ (row, datum value) ∷ []) (footprint later) rest
  with_row {rows = rows} kept row value below valid new later rest held permuted =
      let h = kept.held in
      record {
        held = record {
          values = h.values ++ (row, value) ∷ [];
          are = ap (λ (l : List Valued). l ++ (row, datum value) ∷ []) h.are ∙ sym (map_pushed (λ v. (v.0, datum v.1)) h.values (row, value));
          valid = all_pushed (λ r. g.valid_value class r.1) h.values (row, value) h.valid valid;
          rising =
              subst (λ (l : List RowRef). IsRising l) (sym (map_pushed (λ v. v.0) h.values (row, value)))
              (rising_push (places_of h.values) row h.rising
              (subst (λ (l : List RowRef). AreBelow l row.number) (ap (λ (l : List Valued). places_of l) h.are ∙ same_places datum h.values) below));
          tree = later;
          held = held.held;
          stand = refl;
          keys =
              subst (λ (l : List (RowRef × K)). HaveSame l (entries_of later)) (sym (map_pushed entry h.values (row, value)))
              (same_trans _ _ _ (same_pushed (map entry h.values) (row, g.leaf_of class value))
              (same_trans _ _ _ (same_cons (row, g.leaf_of class value) (map entry h.values) (entries_of h.tree) h.keys)
              (same_permuted ((row, g.leaf_of class value) ∷ entries_of h.tree) (entries_of later) permuted)));
        };
        frees = held.frees;
        apart = held.apart;
      }

  pub without_rows : {pages : P} {root : ℕ} {rows : List Valued} {feet free : List ℕ} (kept : Kept pages root rows feet free) (gone : List RowRef)
      → (new : P) (later : Whole K) → HoldsBeside p g class new root later free → entries_of later ≡ filter (λ e. not (is_in gone e.0.number)) (entries_of kept.held.tree)
      → footprint later ≡ footprint kept.held.tree
      → Kept new root (filter (λ row. not (is_in gone row.0.number)) rows) feet free
  without_rows kept gone new later held is same =
      let h = kept.held in
      let stays : ℕ → Bool = λ n. not (is_in gone n) in
      record {
        held = record {
          values = filter (λ row. stays row.0.number) h.values;
          are = ap (λ (l : List Valued). filter (λ row. stays row.0.number) l) h.are ∙ filter_map_is (λ v. (v.0, datum v.1)) (λ row. stays row.0.number) h.values;
          valid = all_kept (λ r. g.valid_value class r.1) (λ row. stays row.0.number) h.values h.valid;
          rising =
              subst (λ (l : List RowRef). IsRising l) (filter_map_is (λ v. v.0) (λ (r : RowRef). stays r.number) h.values)
              (kept_rising (λ r. stays r.number) (places_of h.values) h.rising);
          tree = later;
          held = held.held;
          stand = h.stand ∙ sym same;
          keys =
              subst (λ (l : List (RowRef × K)). HaveSame (map entry (filter (λ row. stays row.0.number) h.values)) l) (sym is)
              (subst (λ (l : List (RowRef × K)). HaveSame l (filter (λ e. stays e.0.number) (entries_of h.tree))) (filter_map_is entry (λ e. stays e.0.number) h.values)
              (same_kept (λ e. stays e.0.number) (map entry h.values) (entries_of h.tree) h.keys));
        };
        frees = held.frees;
        apart = kept.apart;
      }

  -- What passes among the entries is what is found among the rows.
  pub found_rows : {map' : PageMap} {count root : ℕ} {rows : List Valued} {feet : List ℕ} (h : HoldsKeys g class datum map' count root rows feet) (query : Q) (finds : Datum → Bool) (found : List RowRef)
      → ((v : V) → g.valid_value class v → passes (g.leaf_test class (g.leaf_of class v) query) ≡ finds (datum v)) → IsRising found
      → IsPermutation (map (λ e. e.0) (filter (λ e. passes (g.leaf_test class e.1 query)) (entries_of h.tree))) found
      → found ≡ places_of (filter (λ row. finds row.1) rows)
  found_rows h query finds found agree rising permuted =
      let good : V → Bool = λ v. passes (g.leaf_test class (g.leaf_of class v) query) in
      let hits = filter (λ (r : RowRef × V). good r.1) h.values in
      let kept : filter (λ e. passes (g.leaf_test class e.1 query)) (map entry h.values) ≡ map entry hits =
      filter_map_is entry (λ e. passes (g.leaf_test class e.1 query)) h.values in
      let same_keys : HaveSame (map entry hits) (filter (λ e. passes (g.leaf_test class e.1 query)) (entries_of h.tree)) =
      subst (λ (l : List (RowRef × K)). HaveSame l (filter (λ e. passes (g.leaf_test class e.1 query)) (entries_of h.tree))) kept
      (same_kept (λ e. passes (g.leaf_test class e.1 query)) (map entry h.values) (entries_of h.tree) h.keys) in
      let same_found : HaveSame (places_of (map entry hits)) found =
      same_trans _ _ _ (same_map (λ e. e.0) (map entry hits) (filter (λ e. passes (g.leaf_test class e.1 query)) (entries_of h.tree)) same_keys) (same_permuted _ found permuted) in
      let places : places_of (map entry hits) ≡ places_of hits = same_places (λ v. g.leaf_of class v) hits in
      let up : IsRising (places_of hits) = kept_places h.values (λ r. good r.1) h.rising in
      let one : places_of hits ≡ found = same_rising (places_of hits) found up rising (subst (λ (l : List RowRef). HaveSame l found) places same_found) in
      let agreed : hits ≡ filter (λ r. finds (datum r.1)) h.values =
      same_filter (λ r. good r.1) (λ r. finds (datum r.1)) h.values (all_under (λ r. g.valid_value class r.1) (λ r. good r.1 ≡ finds (datum r.1)) h.values (λ r valid. agree r.1 valid) h.valid) in
      sym one ∙ ap (λ (l : List (RowRef × V)). places_of l) agreed
      ∙ sym (same_places datum (filter (λ r. finds (datum r.1)) h.values))
      ∙ ap (λ (l : List Valued). places_of l)
      (sym (filter_map_is (λ r. (r.0, datum r.1)) (λ row. finds row.1) h.values) ∙ ap (λ (l : List Valued). filter (λ row. finds row.1) l) (sym h.are))
