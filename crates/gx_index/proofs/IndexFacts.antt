-- An index changes where one of its two parts does.
use Rattle.std.proofs.Common.{◌≡◌, ⊎_elim, ℕ, ◌<◌, Bool, true, false, ◌||◌, cond, List, [], ◌∷◌, ◌++◌, filter, Some, None, refl, sym, ◌∙◌, ap, subst, append-nil, arith}
use Rattle.std.specs.Prelude.{is_none}
use Rattle.std.specs.List.{AllByRecursion}
use Rattle.std.specs.Option.{option_map}
use Rattle.std.proofs.lemmas.List.Elements.{filter_map-append}
use Rattle.gx_words.specs.PageMap.{PageMap}
use Rattle.gx_pages.specs.declared.row.RowRef.{RowRef}
use Rattle.gx_pages.specs.declared.store.Pages.{Ghosts}
use Rattle.gx_pages.specs.Footprints.{KeepsPages}
use Rattle.gx_pages.specs.Frees.{IsApart}
use Rattle.gx_pages.specs.Rows.{AreBelow}
use Rattle.gx_pages.proofs.Footprints.{times-append, keeps_join, kept_beside, all_join}
use Rattle.gx_value.specs.Values.{Datum}
use Rattle.gx_index.specs.Beside.{Beside}
use Rattle.gx_index.specs.Indexed.{Field, HoldsIndex, valued, nulls_of}
use Rattle.gx_index.specs.Kept.{Valued, places_of}
use Rattle.gx_index.specs.Nulls.{HoldsNulls}
use Rattle.gx_index.proofs.Among.{map_pushed}
use Rattle.gx_index.proofs.Frames.{apart_by, keeps_before, keeps_behind, still_apart}

-- One row more.

filter_pushed : {X : Type 0} (p : X → Bool) (xs : List X) (y : X) → filter p (xs ++ y ∷ []) ≡ filter p xs ++ filter p (y ∷ [])
filter_pushed p [] y = refl
filter_pushed {X} p (x ∷ xs) y = step (p x) (filter p (xs ++ y ∷ [])) (filter p xs) (filter_pushed p xs y)
  where
    step : (b : Bool) (l k : List X) → l ≡ k ++ filter p (y ∷ []) → cond b (x ∷ l) l ≡ cond b (x ∷ k) k ++ filter p (y ∷ [])
    step true l k e = ap (λ (m : List X). x ∷ m) e
    step false l k e = e

pub valued_with : (rows : List Field) (row : RowRef) (value : Datum) → valued (rows ++ (row, Some value) ∷ []) ≡ valued rows ++ (row, value) ∷ []
valued_with rows row value = filter_map-append (λ (r : Field). option_map (λ v. (r.0, v)) r.1) rows ((row, Some value) ∷ [])

pub valued_null : (rows : List Field) (row : RowRef) → valued (rows ++ (row, None) ∷ []) ≡ valued rows
valued_null rows row = filter_map-append (λ (r : Field). option_map (λ v. (r.0, v)) r.1) rows ((row, None) ∷ []) ∙ append-nil (valued rows)

pub nulls_with : (rows : List Field) (row : RowRef) (value : Datum) → nulls_of (rows ++ (row, Some value) ∷ []) ≡ nulls_of rows
nulls_with rows row value = ap (λ (l : List Field). places_of l) (filter_pushed (λ r. is_none r.1) rows (row, Some value) ∙ append-nil (filter (λ r. is_none r.1) rows))

pub nulls_null : (rows : List Field) (row : RowRef) → nulls_of (rows ++ (row, None) ∷ []) ≡ nulls_of rows ++ row ∷ []
nulls_null rows row =
    ap (λ (l : List Field). places_of l) (filter_pushed (λ r. is_none r.1) rows (row, None)) ∙ map_pushed (λ (r : Field). r.0) (filter (λ r. is_none r.1) rows) (row, None)

pub below_valued : (rows : List Field) (n : ℕ) → AreBelow (places_of rows) n → AreBelow (places_of (valued rows)) n
below_valued [] n all = tt
below_valued ((row, None) ∷ rows) n all = below_valued rows n all.1
below_valued ((row, Some value) ∷ rows) n all = (all.0, below_valued rows n all.1)

pub below_nulls : (rows : List Field) (n : ℕ) → AreBelow (places_of rows) n → AreBelow (nulls_of rows) n
below_nulls [] n all = tt
below_nulls ((row, None) ∷ rows) n all = (all.0, below_nulls rows n all.1)
below_nulls ((row, Some value) ∷ rows) n all = below_nulls rows n all.1

-- Some rows gone: first those with values, then those with NULL.

module _ (stays : ℕ → Bool) where
  -- the rows in between
  abbrev pub halfway : List Field → List Field
  halfway rows = filter (λ row. is_none row.1 || stays row.0.number) rows

  valued_step : (b : Bool) (row : RowRef) (value : Datum) (l : List Field) (k : List Valued) → valued l ≡ k → valued (cond b ((row, Some value) ∷ l) l) ≡ cond b ((row, value) ∷ k) k
  valued_step true row value l k e = ap (λ (m : List Valued). (row, value) ∷ m) e
  valued_step false row value l k e = e

  skip_step : (b : Bool) (row : RowRef) (l : List Field) → valued (cond b ((row, None) ∷ l) l) ≡ valued l
  skip_step true row l = refl
  skip_step false row l = refl

  pub valued_half : (rows : List Field) → valued (halfway rows) ≡ filter (λ row. stays row.0.number) (valued rows)
  valued_half [] = refl
  valued_half ((row, None) ∷ rows) = valued_half rows
  valued_half ((row, Some value) ∷ rows) = valued_step (stays row.number) row value (halfway rows) (filter (λ r. stays r.0.number) (valued rows)) (valued_half rows)

  pub valued_rest : (rows : List Field) → valued (filter (λ row. stays row.0.number) rows) ≡ filter (λ row. stays row.0.number) (valued rows)
  valued_rest [] = refl
  valued_rest ((row, None) ∷ rows) = skip_step (stays row.number) row (filter (λ r. stays r.0.number) rows) ∙ valued_rest rows
  valued_rest ((row, Some value) ∷ rows) = valued_step (stays row.number) row value (filter (λ r. stays r.0.number) rows) (filter (λ r. stays r.0.number) (valued rows)) (valued_rest rows)

  null_step : (b : Bool) (row : RowRef) (value : Datum) (l : List Field) → nulls_of (cond b ((row, Some value) ∷ l) l) ≡ nulls_of l
  null_step true row value l = refl
  null_step false row value l = refl

  keep_step : (b : Bool) (row : RowRef) (l : List Field) (k : List RowRef) → nulls_of l ≡ k → nulls_of (cond b ((row, None) ∷ l) l) ≡ cond b (row ∷ k) k
  keep_step true row l k e = ap (λ (m : List RowRef). row ∷ m) e
  keep_step false row l k e = e

  pub nulls_half : (rows : List Field) → nulls_of (halfway rows) ≡ nulls_of rows
  nulls_half [] = refl
  nulls_half ((row, None) ∷ rows) = ap (λ (m : List RowRef). row ∷ m) (nulls_half rows)
  nulls_half ((row, Some value) ∷ rows) = null_step (stays row.number) row value (halfway rows) ∙ nulls_half rows

  pub nulls_rest : (rows : List Field) → nulls_of (filter (λ row. stays row.0.number) rows) ≡ filter (λ row. stays row.number) (nulls_of rows)
  nulls_rest [] = refl
  nulls_rest ((row, None) ∷ rows) = keep_step (stays row.number) row (filter (λ r. stays r.0.number) rows) (filter (λ r. stays r.number) (nulls_of rows)) (nulls_rest rows)
  nulls_rest ((row, Some value) ∷ rows) = null_step (stays row.number) row value (filter (λ r. stays r.0.number) rows) ∙ nulls_rest rows

pub nulls_lie : (pages : PageMap) (count nulls : ℕ) (rows : List RowRef) (feet : List ℕ) → HoldsNulls pages count nulls rows feet → AllByRecursion (λ page. page < count) feet
nulls_lie pages count nulls rows feet h =
    ⊎_elim (λ none. subst (λ (f : List ℕ). AllByRecursion (λ page. page < count) f) (sym none.no_feet) tt)
    (λ some. subst (λ (f : List ℕ). AllByRecursion (λ page. page < count) f) (sym some.held.stand) some.held.held.below) h

module _ {P : Type 0} (p : Ghosts P) (Holds : List Valued → PageMap → ℕ → List ℕ → Type 0) where
  abbrev pub Index : P → ℕ → List Field → List ℕ → List ℕ → Type 0
  Index pages nulls rows feet free = Beside p (HoldsIndex Holds nulls rows) pages feet free

  -- what a change makes of an index
  abbrev pub Makes : P → P → ℕ → List Field → List ℕ → List ℕ → Type 0
  Makes old new nulls rows feet free = (later : List ℕ) × (rest : List ℕ) × Index new nulls rows later rest × KeepsPages p old new feet free later rest

  parts : {pages : P} {nulls : ℕ} {rows : List Field} {feet free : List ℕ} (h : Index pages nulls rows feet free) → IsApart (h.held.values ++ h.held.others ++ free)
  parts {free = free} h = subst (λ (f : List ℕ). IsApart (f ++ free)) h.held.stand h.apart

  pub values_in : {pages : P} {nulls : ℕ} {rows : List Field} {feet free : List ℕ} (h : Index pages nulls rows feet free) → Beside p (Holds (valued rows)) pages h.held.values free
  values_in {free = free} h = record {
    held = h.held.kept;
    frees = h.frees;
    apart = (
        let a = h.held.values in
        let b = h.held.others in
        apart_by (a ++ b ++ free) (a ++ free) (λ n. let x = times-append n (a ++ b) free in let y = times-append n a b in let z = times-append n a free in omega (arith, x, y, z)) (parts h));
  }

  pub nulls_in : {pages : P} {nulls : ℕ} {rows : List Field} {feet free : List ℕ} (h : Index pages nulls rows feet free)
      → Beside p (λ map count at. HoldsNulls map count nulls (nulls_of rows) at) pages h.held.others free
  nulls_in {free = free} h = record {
    held = h.held.null;
    frees = h.frees;
    apart = (
        let a = h.held.values in
        let b = h.held.others in
        apart_by (a ++ b ++ free) (b ++ free) (λ n. let x = times-append n (a ++ b) free in let y = times-append n a b in let z = times-append n b free in omega (arith, x, y, z)) (parts h));
  }

  pub nulls_apart : {pages : P} {nulls : ℕ} {rows : List Field} {feet free : List ℕ} (h : Index pages nulls rows feet free) → IsApart (h.held.values ++ free ++ h.held.others)
  nulls_apart {free = free} h =
      let a = h.held.values in
      let b = h.held.others in
      apart_by (a ++ b ++ free) (a ++ free ++ b)
      (λ n. let x = times-append n (a ++ b) free in let y = times-append n a b in let z = times-append n (a ++ free) b in let w = times-append n a free in omega (arith, x, y, z, w)) (parts h)

  pub values_apart : {pages : P} {nulls : ℕ} {rows : List Field} {feet free : List ℕ} (h : Index pages nulls rows feet free) → IsApart (h.held.others ++ free ++ h.held.values)
  values_apart {free = free} h =
      let a = h.held.values in
      let b = h.held.others in
      apart_by (a ++ b ++ free) (b ++ free ++ a)
      (λ n. let x = times-append n (a ++ b) free in let y = times-append n a b in let z = times-append n (b ++ free) a in let w = times-append n b free in omega (arith, x, y, z, w)) (parts h)

  -- The part with values became another one.
  pub values_changed : {old : P} {nulls : ℕ} {rows : List Field} {feet free : List ℕ} (h : Index old nulls rows feet free) (new : P) (next : List Field) (later rest : List ℕ)
      → Beside p (Holds (valued next)) new later rest → nulls_of next ≡ nulls_of rows → KeepsPages p old new h.held.values free later rest
      → HoldsNulls (p.map new) (p.count new) nulls (nulls_of rows) h.held.others → Makes old new nulls next feet free
  values_changed {old} {nulls} {rows} {feet} {free} h new next later rest kept same keeps null =
      let a = h.held.values in
      let b = h.held.others in
      let apart = still_apart p old new a free later rest b keeps (nulls_apart h) kept.apart (nulls_lie (p.map old) (p.count old) nulls (nulls_of rows) b h.held.null) in (
        later ++ b,
        rest,
        record {
          held = record { values = later; others = b; stand = refl; kept = kept.held; null = subst (λ (l : List RowRef). HoldsNulls (p.map new) (p.count new) nulls l b) (sym same) null };
          frees = kept.frees;
          apart = apart_by (later ++ rest ++ b) (later ++ b ++ rest)
              (λ n. let x = times-append n (later ++ rest) b in let y = times-append n later rest in let z = times-append n (later ++ b) rest in let w = times-append n later b in omega (arith, x, y, z, w)) apart;
        },
        subst (λ (f : List ℕ). KeepsPages p old new f free (later ++ b) rest) (sym h.held.stand) (keeps_before p old new a free later rest b keeps),
      )

  -- The part with NULL became another one.
  pub nulls_changed : {old : P} {nulls : ℕ} {rows : List Field} {feet free : List ℕ} (h : Index old nulls rows feet free) (new : P) (root : ℕ) (next : List Field) (later rest : List ℕ)
      → Beside p (λ map count at. HoldsNulls map count root (nulls_of next) at) new later rest → valued next ≡ valued rows → KeepsPages p old new h.held.others free later rest
      → Holds (valued rows) (p.map new) (p.count new) h.held.values → AllByRecursion (λ page. page < p.count old) h.held.values → Makes old new root next feet free
  nulls_changed {old} {nulls} {rows} {feet} {free} h new root next later rest null same keeps kept below =
      let a = h.held.values in
      let b = h.held.others in
      let apart = still_apart p old new b free later rest a keeps (values_apart h) null.apart below in (
        a ++ later,
        rest,
        record {
          held = record { values = a; others = later; stand = refl; kept = subst (λ (l : List Valued). Holds l (p.map new) (p.count new) a) (sym same) kept; null = null.held };
          frees = null.frees;
          apart = apart_by (later ++ rest ++ a) (a ++ later ++ rest)
              (λ n. let x = times-append n (later ++ rest) a in let y = times-append n later rest in let z = times-append n (a ++ later) rest in let w = times-append n a later in omega (arith, x, y, z, w)) apart;
        },
        subst (λ (f : List ℕ). KeepsPages p old new f free (a ++ later) rest) (sym h.held.stand) (keeps_behind p old new b free later rest a keeps),
      )

  -- The NULL rows are gone, and then the others.
  pub both_gone : {old : P} {nulls : ℕ} {rows : List Field} {feet free : List ℕ} (h : Index old nulls rows feet free) (mid new : P) (left rest : List ℕ)
      → KeepsPages p old mid h.held.others free [] left → KeepsPages p mid new h.held.values left [] rest → KeepsPages p old new feet free [] rest
  both_gone {old} {nulls} {rows} {feet} {free} h mid new left rest first second =
      let a = h.held.values in
      let b = h.held.others in
      let whole = subst (λ (l : List ℕ). KeepsPages p old mid (a ++ b) free l left) (append-nil a) (keeps_behind p old mid b free [] left a first) in
      subst (λ (f : List ℕ). KeepsPages p old new f free [] rest) (sym h.held.stand) (keeps_join p old mid new (a ++ b) free a left [] rest whole second)

  -- Those with values lost some rows, and those with NULL didn't yet.
  pub half_changed : {old : P} {nulls : ℕ} {rows : List Field} {feet free : List ℕ} (h : Index old nulls rows feet free) (stays : ℕ → Bool) (mid : P) (later rest : List ℕ)
      → Beside p (Holds (filter (λ row. stays row.0.number) (valued rows))) mid later rest → KeepsPages p old mid h.held.values free later rest
      → HoldsNulls (p.map mid) (p.count mid) nulls (nulls_of rows) h.held.others → Makes old mid nulls (halfway stays rows) feet free
  half_changed {old} {nulls} {rows} h stays mid later rest kept keeps null =
      values_changed h mid (halfway stays rows) later rest (subst (λ (l : List Valued). Beside p (Holds l) mid later rest) (sym (valued_half stays rows)) kept) (nulls_half stays rows) keeps null

  pub rest_changed : {mid : P} {nulls : ℕ} (rows : List Field) {feet free : List ℕ} (stays : ℕ → Bool) (i : Index mid nulls (halfway stays rows) feet free) (new : P) (root : ℕ) (later rest : List ℕ)
      → Beside p (λ map count at. HoldsNulls map count root (filter (λ row. stays row.number) (nulls_of (halfway stays rows))) at) new later rest → KeepsPages p mid new i.held.others free later rest
      → Holds (valued (halfway stays rows)) (p.map new) (p.count new) i.held.values → AllByRecursion (λ page. page < p.count mid) i.held.values
      → Makes mid new root (filter (λ row. stays row.0.number) rows) feet free
  rest_changed rows stays i new root later rest null keeps kept below =
      nulls_changed i new root (filter (λ row. stays row.0.number) rows) later rest
      (subst (λ (l : List RowRef). Beside p (λ map count at. HoldsNulls map count root l at) new later rest)
      (sym (nulls_rest stays rows ∙ ap (λ (l : List RowRef). filter (λ row. stays row.number) l) (sym (nulls_half stays rows)))) null)
      (valued_rest stays rows ∙ sym (valued_half stays rows)) keeps kept below

  pub both_changed : {old mid new : P} {nulls root : ℕ} {half rows : List Field} {feet free : List ℕ} (first : Makes old mid nulls half feet free) → Makes mid new root rows first.0 first.1 → Makes old new root rows feet free
  both_changed {old} {mid} {new} {feet = feet} {free = free} first second =
      (second.0, second.1, second.2, keeps_join p old mid new feet free first.0 first.1 second.0 second.1 first.3 second.3)

  -- It stands beside another structure that changed.
  pub index_stays : {old : P} {nulls : ℕ} {rows : List Field} {feet free : List ℕ} (h : Index old nulls rows feet free) (new : P) (before after rest : List ℕ) → KeepsPages p old new before free after rest
      → IsApart (before ++ free ++ feet) → AllByRecursion (λ page. page < p.count old) before → AllByRecursion (λ page. page < p.count old) feet
      → (IsApart (before ++ free ++ h.held.values) → Beside p (Holds (valued rows)) new h.held.values rest)
      → (IsApart (before ++ free ++ h.held.others) → HoldsNulls (p.map new) (p.count new) nulls (nulls_of rows) h.held.others) → Index new nulls rows feet rest
  index_stays {old} {nulls} {rows} {feet} {free} h new before after rest keeps apart low below values null =
      let a = h.held.values in
      let b = h.held.others in
      let whole : IsApart (before ++ free ++ (a ++ b)) = subst (λ (f : List ℕ). IsApart (before ++ free ++ f)) h.held.stand apart in
      let kept = values
      (apart_by (before ++ free ++ (a ++ b)) (before ++ free ++ a)
      (λ n. let x = times-append n (before ++ free) (a ++ b) in let y = times-append n a b in let z = times-append n (before ++ free) a in omega (arith, x, y, z)) whole) in
      let beside = kept_beside p old new before free after rest feet keeps apart
      (all_join (λ (page : ℕ). page < p.count old) (before ++ free) feet (all_join (λ (page : ℕ). page < p.count old) before free low h.frees.below) below) in
      record {
        held = record {
          values = a;
          others = b;
          stand = h.held.stand;
          kept = kept.held;
          null = null
              (apart_by (before ++ free ++ (a ++ b)) (before ++ free ++ b)
              (λ n. let x = times-append n (before ++ free) (a ++ b) in let y = times-append n a b in let z = times-append n (before ++ free) b in omega (arith, x, y, z)) whole);
        };
        frees = keeps.frees;
        apart = apart_by (after ++ rest ++ feet) (feet ++ rest)
            (λ n. let x = times-append n (after ++ rest) feet in let y = times-append n after rest in let z = times-append n feet rest in omega (arith, x, y, z)) beside;
      }
