-- A table of a database and its place in the catalog and among the heaps; another table in that place.
use Rattle.std.proofs.Common.{◌≡◌, ◌≢◌, ℕ, Bool, true, false, not, ◌||◌, cond, eqb, List, [], ◌∷◌, ◌++◌, map, Option, Some, None, refl, sym, ◌∙◌, ap, subst, ⊎_elim}
use Rattle.std.specs.Prelude.{find, filter}
use Rattle.std.specs.List.{AllByRecursion, list_any}
use Rattle.std.specs.Str.{bytes_eq}
use Rattle.std.proofs.lemmas.Bool.Decides.{eqb_tells}
use Rattle.std.proofs.lemmas.Slice.Eq.{bytes_eq-Decides}
use Rattle.gx_heap.specs.declared.heap.Heap.{Heap}
use Rattle.gx_catalog.specs.Catalogs.{with_heap, without_table as without_info}
use Rattle.gx_catalog.specs.Validity as catalogs
use Rattle.gx_catalog.specs.declared.info.TableInfo.{TableInfo}
use Rattle.gx_model.specs.Database.{Database, Table, AreDistinct, is_table, with_table, without_table}
use Rattle.gx_database.specs.Heaps.{Stored}
use Rattle.gx_database.specs.Standing.{IsStored, AreStored}
use Rattle.gx_database.specs.Places.{Place}

-- The place of a table.

absent_step : (name : List ℕ) (b : Bool) (t : Table) (rest : Option Table) → is_table name t ≡ b → cond b (Some t) rest ≡ None → (is_table name t ≡ false) × (rest ≡ None)
absent_step name true t rest h e = cc
absent_step name false t rest h e = (h, e)

unfoldable pub at_front : (name : List ℕ) (t : Table) (ts : List Table) (i : TableInfo) (infos : List TableInfo) (s : Stored) (stored : List Stored) → IsStored t i s → AreStored ts infos stored
    → Place name t (t ∷ ts) (i ∷ infos) (s ∷ stored)
at_front name t ts i infos s stored h k = record {
  tables_before = [];
  tables_behind = ts;
  infos_before = [];
  info = i;
  infos_behind = infos;
  stored_before = [];
  stored = s;
  stored_behind = stored;
  tables = refl;
  infos = refl;
  heaps = refl;
  before = (refl, refl);
  here = h;
  behind = k;
  others = tt;
}

unfoldable pub behind : (name : List ℕ) (t u : Table) (ts : List Table) (i : TableInfo) (infos : List TableInfo) (s : Stored) (stored : List Stored) → IsStored u i s → is_table name u ≡ false → Place name t ts infos stored
    → Place name t (u ∷ ts) (i ∷ infos) (s ∷ stored)
behind name t u ts i infos s stored h n p = record {
  tables_before = u ∷ p.tables_before;
  tables_behind = p.tables_behind;
  infos_before = i ∷ p.infos_before;
  info = p.info;
  infos_behind = p.infos_behind;
  stored_before = s ∷ p.stored_before;
  stored = p.stored;
  stored_behind = p.stored_behind;
  tables = ap (λ (xs : List Table). u ∷ xs) p.tables;
  infos = ap (λ (xs : List TableInfo). i ∷ xs) p.infos;
  heaps = ap (λ (xs : List Stored). s ∷ xs) p.heaps;
  before = (h, p.before);
  here = p.here;
  behind = p.behind;
  others = (n, p.others);
}

place_step : (name : List ℕ) (b : Bool) (t u : Table) (ts : List Table) (rest : Option Table) (i : TableInfo) (infos : List TableInfo) (s : Stored) (stored : List Stored) → is_table name u ≡ b
    → IsStored u i s → AreStored ts infos stored → (rest ≡ Some t → Place name t ts infos stored) → cond b (Some u) rest ≡ Some t → Place name t (u ∷ ts) (i ∷ infos) (s ∷ stored)
place_step name true t u ts rest i infos s stored n h k r e =
    let g : u ≡ t = cc in
    subst (λ (x : Table). Place name t (x ∷ ts) (i ∷ infos) (s ∷ stored)) (sym g) (at_front name t ts i infos s stored (subst (λ (x : Table). IsStored x i s) g h) k)
place_step name false t u ts rest i infos s stored n h k r e = behind name t u ts i infos s stored h n (r e)

pub place : (name : List ℕ) (t : Table) (ts : List Table) (infos : List TableInfo) (stored : List Stored) → AreStored ts infos stored → find (is_table name) ts ≡ Some t → Place name t ts infos stored
place name t [] infos stored h e = absurd (nothing e)
  where
    nothing : None ≡ Some t → ⊥
    nothing g = cc
place name t (u ∷ ts) [] stored h e = absurd h
place name t (u ∷ ts) (i ∷ infos) [] h e = absurd h
place name t (u ∷ ts) (i ∷ infos) (s ∷ stored) h e =
    place_step name (is_table name u) t u ts (find (is_table name) ts) i infos s stored refl h.0 h.1 (place name t ts infos stored h.1) e

-- Another table there.

pub joined : (before behind : List Table) (t : Table) (ib : List TableInfo) (i : TableInfo) (ia : List TableInfo) (sb : List Stored) (s : Stored) (sa : List Stored) → AreStored before ib sb → IsStored t i s
    → AreStored behind ia sa → AreStored (before ++ t ∷ behind) (ib ++ i ∷ ia) (sb ++ s ∷ sa)
joined [] behind t [] i ia [] s sa b h a = (h, a)
joined [] behind t [] i ia (x ∷ sb) s sa b h a = absurd (some_stored x sb b.1)
  where
    some_stored : (y : Stored) (ys : List Stored) → y ∷ ys ≡ [] → ⊥
    some_stored y ys g = cc
joined [] behind t (x ∷ ib) i ia sb s sa b h a = absurd (some_info x ib b.0)
  where
    some_info : (y : TableInfo) (ys : List TableInfo) → y ∷ ys ≡ [] → ⊥
    some_info y ys g = cc
joined (u ∷ before) behind t [] i ia sb s sa b h a = absurd b
joined (u ∷ before) behind t (x ∷ ib) i ia [] s sa b h a = absurd b
joined (u ∷ before) behind t (x ∷ ib) i ia (y ∷ sb) s sa b h a = (b.0, joined before behind t ib i ia sb s sa b.1 h a)

-- The lists with another table.

abbrev changed : List ℕ → Table → Table → Table
changed name new t = cond (is_table name t) new t

same_pair : {A : Type 0} (a b : A) (xs ys : List A) → a ≡ b → xs ≡ ys → a ∷ xs ≡ b ∷ ys
same_pair a b xs ys e f = rw (e, f) refl

untouched_tables : (name : List ℕ) (new : Table) (ts : List Table) → AllByRecursion (λ u. is_table name u ≡ false) ts → map (changed name new) ts ≡ ts
untouched_tables name new [] h = refl
untouched_tables name new (t ∷ ts) h = same_pair (changed name new t) t (map (changed name new) ts) ts (rw (h.0) refl) (untouched_tables name new ts h.1)

parts_of_any : (a b : Bool) → (a || b) ≡ false → (a ≡ false) × (b ≡ false)
parts_of_any true b h = cc
parts_of_any false b h = (refl, h)

not_named_step : (name other : List ℕ) (b : Bool) → bytes_eq other name ≡ b → bytes_eq name other ≡ false → b ≡ false
not_named_step name other true h k =
    let e : other ≡ name = (bytes_eq-Decides other name).0 h in
    let f : bytes_eq name other ≡ true = (bytes_eq-Decides name other).1 (sym e) in cc
not_named_step name other false h k = refl

not_named : (name : List ℕ) (ts : List Table) → list_any (bytes_eq name) (map (λ t. t.name) ts) ≡ false → AllByRecursion (λ u. is_table name u ≡ false) ts
not_named name [] h = tt
not_named name (t ∷ ts) h =
    let k = parts_of_any (bytes_eq name t.name) (list_any (bytes_eq name) (map (λ u. u.name) ts)) h in
    (not_named_step name t.name (bytes_eq t.name name) refl k.0, not_named name ts k.1)

distinct_behind : (before : List Table) (t : Table) (behind : List Table) → AreDistinct (map (λ u. u.name) (before ++ t ∷ behind)) → list_any (bytes_eq t.name) (map (λ u. u.name) behind) ≡ false
distinct_behind [] t behind h = h.0
distinct_behind (u ∷ before) t behind h = distinct_behind before t behind h.1

map_mid : (f : Table → Table) (before : List Table) (t : Table) (behind : List Table) → map f (before ++ t ∷ behind) ≡ map f before ++ f t ∷ map f behind
map_mid f [] t behind = refl
map_mid f (u ∷ before) t behind = ap (λ (xs : List Table). f u ∷ xs) (map_mid f before t behind)

same_three : (before others : List Table) (t u : Table) (behind more : List Table) → before ≡ others → t ≡ u → behind ≡ more → before ++ t ∷ behind ≡ others ++ u ∷ more
same_three before others t u behind more e f g = rw (e, f, g) refl

pub with_table_at : (db : Database) (name : List ℕ) (t new : Table) (infos : List TableInfo) (stored : List Stored) (p : Place name t db.tables infos stored) → AreDistinct (map (λ u. u.name) db.tables) → t.name ≡ name
    → (with_table db name new).tables ≡ p.tables_before ++ new ∷ p.tables_behind
with_table_at db name t new infos stored p distinct named =
    let f : Table → Table = changed name new in
    let d : AreDistinct (map (λ u. u.name) (p.tables_before ++ t ∷ p.tables_behind)) = subst (λ (ts : List Table). AreDistinct (map (λ u. u.name) ts)) p.tables distinct in
    let none : list_any (bytes_eq name) (map (λ u. u.name) p.tables_behind) ≡ false =
    subst (λ (n : List ℕ). list_any (bytes_eq n) (map (λ u. u.name) p.tables_behind) ≡ false) named (distinct_behind p.tables_before t p.tables_behind d) in
    let is : is_table name t ≡ true = (bytes_eq-Decides t.name name).1 named in
    let here : f t ≡ new = (rw is refl) in
    ap (λ (ts : List Table). map f ts) p.tables ∙ map_mid f p.tables_before t p.tables_behind
    ∙ same_three (map f p.tables_before) p.tables_before (f t) new (map f p.tables_behind) p.tables_behind (untouched_tables name new p.tables_before p.others) here
    (untouched_tables name new p.tables_behind (not_named name p.tables_behind none))

pub exchanged : (db : Database) (name : List ℕ) (t new : Table) (infos : List TableInfo) (stored : List Stored) (p : Place name t db.tables infos stored) (info : TableInfo) (s : Stored)
    → AreDistinct (map (λ u. u.name) db.tables) → t.name ≡ name → IsStored new info s
    → AreStored (with_table db name new).tables (p.infos_before ++ info ∷ p.infos_behind) (p.stored_before ++ s ∷ p.stored_behind)
exchanged db name t new infos stored p info s distinct named h =
    subst (λ (ts : List Table). AreStored ts (p.infos_before ++ info ∷ p.infos_behind) (p.stored_before ++ s ∷ p.stored_behind)) (sym (with_table_at db name t new infos stored p distinct named))
    (joined p.tables_before p.tables_behind new p.infos_before info p.infos_behind p.stored_before s p.stored_behind p.before h p.behind)

-- The catalog with another heap there.

abbrev heap_at : ℕ → Heap → TableInfo → TableInfo
heap_at number heap t = cond (eqb t.number number) (record t { heap = heap }) t

other_number : (number : ℕ) (heap : Heap) (t : TableInfo) → t.number ≢ number → heap_at number heap t ≡ t
other_number number heap t n = ⊎_elim (λ same. absurd (n same.1)) (λ other. rw (other.0) refl) (eqb_tells t.number number)

same_number : (heap : Heap) (t : TableInfo) → heap_at t.number heap t ≡ record t { heap = heap }
same_number heap t = ⊎_elim (λ same. rw (same.0) refl) (λ other. absurd (other.1 refl)) (eqb_tells t.number t.number)

heaps_behind : (number : ℕ) (heap : Heap) (ts : List TableInfo) → AllByRecursion (λ n. n ≢ number) (map (λ t. t.number) ts) → map (heap_at number heap) ts ≡ ts
heaps_behind number heap [] h = refl
heaps_behind number heap (t ∷ ts) h = same_pair (heap_at number heap t) t (map (heap_at number heap) ts) ts (other_number number heap t h.0) (heaps_behind number heap ts h.1)

number_apart : (n : ℕ) (before : List TableInfo) (i : TableInfo) (behind : List TableInfo) → AllByRecursion (λ m. m ≢ n) (map (λ t. t.number) (before ++ i ∷ behind)) → n ≢ i.number
number_apart n [] i behind h = λ e. h.0 (sym e)
number_apart n (t ∷ before) i behind h = number_apart n before i behind h.1

pub with_heap_mid : (before : List TableInfo) (i : TableInfo) (behind : List TableInfo) (heap : Heap) → catalogs.AreDistinct (map (λ t. t.number) (before ++ i ∷ behind))
    → with_heap i.number heap (before ++ i ∷ behind) ≡ before ++ record i { heap = heap } ∷ behind
with_heap_mid [] i behind heap h = same_pair (heap_at i.number heap i) (record i { heap = heap }) (map (heap_at i.number heap) behind) behind (same_number heap i) (heaps_behind i.number heap behind h.0)
with_heap_mid (t ∷ before) i behind heap h =
    same_pair (heap_at i.number heap t) t (map (heap_at i.number heap) (before ++ i ∷ behind)) (before ++ record i { heap = heap } ∷ behind)
    (other_number i.number heap t (number_apart t.number before i behind h.0)) (with_heap_mid before i behind heap h.1)

-- A table more.

pub added : (ts : List Table) (infos : List TableInfo) (stored : List Stored) (t : Table) (i : TableInfo) (s : Stored) → AreStored ts infos stored → IsStored t i s
    → AreStored (ts ++ t ∷ []) (infos ++ i ∷ []) (stored ++ s ∷ [])
added ts infos stored t i s h k = joined ts [] t infos i [] stored s [] h k (refl, refl)

-- A table less.

no_info : (i : TableInfo) (is : List TableInfo) → i ∷ is ≡ [] → ⊥
no_info i is h = cc

no_stored : (s : Stored) (ss : List Stored) → s ∷ ss ≡ [] → ⊥
no_stored s ss h = cc

both_stored : (before behind : List Table) (ib ia : List TableInfo) (sb sa : List Stored) → AreStored before ib sb → AreStored behind ia sa → AreStored (before ++ behind) (ib ++ ia) (sb ++ sa)
both_stored [] behind [] ia [] sa b a = a
both_stored [] behind [] ia (y ∷ sb) sa b a = absurd (no_stored y sb b.1)
both_stored [] behind (x ∷ ib) ia sb sa b a = absurd (no_info x ib b.0)
both_stored (u ∷ before) behind [] ia sb sa b a = absurd b
both_stored (u ∷ before) behind (x ∷ ib) ia [] sa b a = absurd b
both_stored (u ∷ before) behind (x ∷ ib) ia (y ∷ sb) sa b a = (b.0, both_stored before behind ib ia sb sa b.1 a)

abbrev differs : List ℕ → Table → Bool
differs name t = not (is_table name t)

kept_step : (b : Bool) (t : Table) (rest more : List Table) → b ≡ false → rest ≡ more → cond (not b) (t ∷ rest) rest ≡ t ∷ more
kept_step true t rest more h e = cc
kept_step false t rest more h e = ap (λ (xs : List Table). t ∷ xs) e

kept_tables : (name : List ℕ) (ts : List Table) → AllByRecursion (λ u. is_table name u ≡ false) ts → filter (differs name) ts ≡ ts
kept_tables name [] h = refl
kept_tables name (t ∷ ts) h = kept_step (is_table name t) t (filter (differs name) ts) ts h.0 (kept_tables name ts h.1)

dropped_step : (b : Bool) (t : Table) (rest more : List Table) → b ≡ true → rest ≡ more → cond (not b) (t ∷ rest) rest ≡ more
dropped_step true t rest more h e = e
dropped_step false t rest more h e = cc

dropped_mid : (name : List ℕ) (before : List Table) (t : Table) (behind : List Table) → AllByRecursion (λ u. is_table name u ≡ false) before → is_table name t ≡ true → AllByRecursion (λ u. is_table name u ≡ false) behind
    → filter (differs name) (before ++ t ∷ behind) ≡ before ++ behind
dropped_mid name [] t behind b is a = dropped_step (is_table name t) t (filter (differs name) behind) behind is (kept_tables name behind a)
dropped_mid name (u ∷ before) t behind b is a =
    kept_step (is_table name u) u (filter (differs name) (before ++ t ∷ behind)) (before ++ behind) b.0 (dropped_mid name before t behind b.1 is a)

pub dropped : (db : Database) (name : List ℕ) (t : Table) (infos : List TableInfo) (stored : List Stored) (p : Place name t db.tables infos stored) → AreDistinct (map (λ u. u.name) db.tables) → t.name ≡ name
    → AreStored (without_table db name).tables (p.infos_before ++ p.infos_behind) (p.stored_before ++ p.stored_behind)
dropped db name t infos stored p distinct named =
    let d : AreDistinct (map (λ u. u.name) (p.tables_before ++ t ∷ p.tables_behind)) = subst (λ (ts : List Table). AreDistinct (map (λ u. u.name) ts)) p.tables distinct in
    let none : list_any (bytes_eq name) (map (λ u. u.name) p.tables_behind) ≡ false =
    subst (λ (n : List ℕ). list_any (bytes_eq n) (map (λ u. u.name) p.tables_behind) ≡ false) named (distinct_behind p.tables_before t p.tables_behind d) in
    let is : is_table name t ≡ true = (bytes_eq-Decides t.name name).1 named in
    let e : filter (differs name) db.tables ≡ p.tables_before ++ p.tables_behind =
    ap (λ (ts : List Table). filter (differs name) ts) p.tables ∙ dropped_mid name p.tables_before t p.tables_behind p.others is (not_named name p.tables_behind none) in
    subst (λ (ts : List Table). AreStored ts (p.infos_before ++ p.infos_behind) (p.stored_before ++ p.stored_behind)) (sym e)
    (both_stored p.tables_before p.tables_behind p.infos_before p.infos_behind p.stored_before p.stored_behind p.before p.behind)

-- The catalog without it.

abbrev stays_in : ℕ → TableInfo → Bool
stays_in number t = not (eqb t.number number)

stays_other : (number : ℕ) (t : TableInfo) (rest more : List TableInfo) → t.number ≢ number → rest ≡ more → cond (stays_in number t) (t ∷ rest) rest ≡ t ∷ more
stays_other number t rest more n e =
    ⊎_elim (λ same. absurd (n same.1)) (λ other. rw (other.0) (ap (λ (xs : List TableInfo). t ∷ xs) e)) (eqb_tells t.number number)

goes_same : (t : TableInfo) (rest more : List TableInfo) → rest ≡ more → cond (stays_in t.number t) (t ∷ rest) rest ≡ more
goes_same t rest more e = ⊎_elim (λ same. rw (same.0) e) (λ other. absurd (other.1 refl)) (eqb_tells t.number t.number)

others_stay : (number : ℕ) (ts : List TableInfo) → AllByRecursion (λ n. n ≢ number) (map (λ t. t.number) ts) → filter (stays_in number) ts ≡ ts
others_stay number [] h = refl
others_stay number (t ∷ ts) h = stays_other number t (filter (stays_in number) ts) ts h.0 (others_stay number ts h.1)

pub without_mid : (before : List TableInfo) (i : TableInfo) (behind : List TableInfo) → catalogs.AreDistinct (map (λ t. t.number) (before ++ i ∷ behind))
    → without_info i.number (before ++ i ∷ behind) ≡ before ++ behind
without_mid [] i behind h = goes_same i (filter (stays_in i.number) behind) behind (others_stay i.number behind h.0)
without_mid (t ∷ before) i behind h =
    stays_other i.number t (filter (stays_in i.number) (before ++ i ∷ behind)) (before ++ behind) (number_apart t.number before i behind h.0) (without_mid before i behind h.1)
