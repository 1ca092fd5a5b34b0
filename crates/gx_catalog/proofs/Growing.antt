-- A catalog with one table or one index more, and what its look-ups find.
use Rattle.std.proofs.Common.{◌≡◌, ◌≢◌, ◌⊎◌, inl, inr, Bool, true, false, cond, ℕ, ◌+◌, ◌<◌, ◌≤◌, ◌==◌, List, [], ◌∷◌, ◌++◌, length, map, bytes_eq, find, Option, Some, None, IsSomeAnd, refl, sym, ◌∙◌, ap, subst, length-append, arith}
use Rattle.std.specs.Bool.{Decides}
use Rattle.std.specs.List.{AllByRecursion}
use Rattle.std.proofs.lemmas.List.{map-append}
use Rattle.std.proofs.lemmas.List.Sums.{sum_by-append}
use Rattle.std.proofs.lemmas.Slice.Eq.{bytes_eq-Decides}
use Rattle.std.proofs.lemmas.Bool.Decides.{Decides-eqb}
use Rattle.gx_pages.proofs.Footprints as feet
use Rattle.gx_catalog.specs.declared.info.TableInfo.{TableInfo}
use Rattle.gx_catalog.specs.declared.info.IndexInfo.{IndexInfo}
use Rattle.gx_catalog.specs.Validity.{AreCatalog, AreDistinct, HasNoIndex, IsAmong, IsIndex, IsTable, TakesColumn, count_on, index_named, table_named, table_numbered}
use Rattle.gx_catalog.proofs.Keys.{find_none, find_some}

-- keys with one more
module _ {X K : Type 0} (key : X → K) where
  pub distinct_more : (xs : List X) (x : X) → AreDistinct (map key xs) → AllByRecursion (λ other. other ≢ key x) (map key xs) → AreDistinct (map key (xs ++ x ∷ []))
  distinct_more [] x distinct differ = (tt, tt)
  distinct_more (z ∷ xs) x distinct differ =
      let D : K → Type 0 = λ other. other ≢ key z in
      let all : AllByRecursion D (map key xs ++ key x ∷ []) = feet.all_join D (map key xs) (key x ∷ []) distinct.0 ((λ same. differ.0 (sym same)), tt) in
      (subst (λ (l : List K). AllByRecursion D l) (sym (map-append key xs (x ∷ []))) all, distinct_more xs x distinct.1 differ.1)

-- The table of a number is found among more tables too.
module _ (T : TableInfo → Type 0) where
  more_step : (b : Bool) (x : TableInfo) (f g : Option TableInfo) → (IsSomeAnd f T → IsSomeAnd g T) → IsSomeAnd (cond b (Some x) f) T → IsSomeAnd (cond b (Some x) g) T
  more_step true x f g rest some = some
  more_step false x f g rest some = rest some

  found_more : (xs ys : List TableInfo) (number : ℕ) → IsSomeAnd (table_numbered number xs) T → IsSomeAnd (table_numbered number (xs ++ ys)) T
  found_more [] ys number some = absurd some
  found_more (x ∷ xs) ys number some = more_step (x.number == number) x (table_numbered number xs) (table_numbered number (xs ++ ys)) (found_more xs ys number) some

-- No index stands on a table that isn't there.
count_step : (tables : List TableInfo) (number : ℕ) (i : IndexInfo) (rest : ℕ) (b : Bool) → (i.table == number) ≡ b → table_numbered number tables ≡ None → IsIndex tables i → rest ≡ 0
    → cond b 1 0 + rest ≡ 0
count_step tables number i rest true same none index zero =
    let at : IsSomeAnd (table_numbered number tables) (TakesColumn i) =
    subst (λ (n : ℕ). IsSomeAnd (table_numbered n tables) (TakesColumn i)) ((Decides-eqb i.table number).0 same) index.column in
    absurd (subst (λ (found : Option TableInfo). IsSomeAnd found (TakesColumn i)) none at)
count_step tables number i rest false same none index zero = omega (arith, zero)

pub count_none : (tables : List TableInfo) (number : ℕ) (indexes : List IndexInfo) → table_numbered number tables ≡ None → AllByRecursion (IsIndex tables) indexes → count_on number indexes ≡ 0
count_none tables number [] none each = refl
count_none tables number (i ∷ indexes) none each =
    let cut = sum_by-append (λ (j : IndexInfo). cond (j.table == number) 1 0) (i ∷ []) indexes in
    let step = count_step tables number i (count_on number indexes) (i.table == number) refl none each.0 (count_none tables number indexes none each.1) in
    omega (arith, cut, step)

pub table_more : (tables : List TableInfo) (indexes : List IndexInfo) (t : TableInfo) → AreCatalog tables indexes → length tables < 256 → IsTable t → table_named t.name tables ≡ None
    → table_numbered t.number tables ≡ None → AreCatalog (tables ++ t ∷ []) indexes
table_more tables indexes t are few is named numbered = record {
  each_table = feet.all_join IsTable tables (t ∷ []) are.each_table (is, tt);
  few = omega (arith, few, length-append tables (t ∷ []));
  names = distinct_more (λ (u : TableInfo). u.name) tables t are.names (find_none (λ (u : TableInfo). u.name) bytes_eq bytes_eq-Decides tables t.name named);
  numbers = distinct_more (λ (u : TableInfo). u.number) tables t are.numbers (find_none (λ (u : TableInfo). u.number) (λ a b. a == b) Decides-eqb tables t.number numbered);
  each_index = feet.all_weaker (IsIndex tables) (IsIndex (tables ++ t ∷ [])) indexes
      (λ i index. record { name = index.name; column = found_more (TakesColumn i) tables (t ∷ []) i.table index.column; parameter = index.parameter }) are.each_index;
  index_names = are.index_names;
  few_on_each = feet.all_join (λ (u : TableInfo). count_on u.number indexes ≤ 32) tables (t ∷ []) are.few_on_each
      ((let none = count_none tables t.number indexes numbered are.each_index in omega (arith, none)), tt);
}

-- how many indexes are on a table where one more comes
more_on_step : (indexes : List IndexInfo) (i : IndexInfo) (number : ℕ) (b : Bool) → (i.table == number) ≡ b → count_on i.table indexes < 32 → count_on number indexes ≤ 32
    → count_on number indexes + (cond b 1 0 + 0) ≤ 32
more_on_step indexes i number true same few all =
    let here : count_on number indexes < 32 = subst (λ (n : ℕ). count_on n indexes < 32) ((Decides-eqb i.table number).0 same) few in
    omega (arith, here)
more_on_step indexes i number false same few all = omega (arith, all)

more_on : (indexes : List IndexInfo) (i : IndexInfo) (number : ℕ) → count_on i.table indexes < 32 → count_on number indexes ≤ 32 → count_on number (indexes ++ i ∷ []) ≤ 32
more_on indexes i number few all =
    let cut = sum_by-append (λ (j : IndexInfo). cond (j.table == number) 1 0) indexes (i ∷ []) in
    let step = more_on_step indexes i number (i.table == number) refl few all in
    omega (arith, cut, step)

pub index_more : (tables : List TableInfo) (indexes : List IndexInfo) (i : IndexInfo) → AreCatalog tables indexes → IsIndex tables i → index_named i.name indexes ≡ None
    → count_on i.table indexes < 32 → AreCatalog tables (indexes ++ i ∷ [])
index_more tables indexes i are is named few = record {
  each_table = are.each_table;
  few = are.few;
  names = are.names;
  numbers = are.numbers;
  each_index = feet.all_join (IsIndex tables) indexes (i ∷ []) are.each_index (is, tt);
  index_names = distinct_more (λ (j : IndexInfo). j.name) indexes i are.index_names (find_none (λ (j : IndexInfo). j.name) bytes_eq bytes_eq-Decides indexes i.name named);
  few_on_each = feet.all_weaker (λ (u : TableInfo). count_on u.number indexes ≤ 32) (λ (u : TableInfo). count_on u.number (indexes ++ i ∷ []) ≤ 32) tables
      (λ u all. more_on indexes i u.number few all) are.few_on_each;
}

-- what look-ups find
pub named_there : (name : List ℕ) (tables : List TableInfo) (t : TableInfo) → table_named name tables ≡ Some t → IsAmong t tables × (t.name ≡ name)
named_there name tables t found = find_some (λ (u : TableInfo). u.name) bytes_eq bytes_eq-Decides tables name t found

pub numbered_there : (number : ℕ) (tables : List TableInfo) (t : TableInfo) → table_numbered number tables ≡ Some t → IsAmong t tables × (t.number ≡ number)
numbered_there number tables t found = find_some (λ (u : TableInfo). u.number) (λ a b. a == b) Decides-eqb tables number t found

pub index_there : (name : List ℕ) (indexes : List IndexInfo) (i : IndexInfo) → index_named name indexes ≡ Some i → IsAmong i indexes × (i.name ≡ name)
index_there name indexes i found = find_some (λ (j : IndexInfo). j.name) bytes_eq bytes_eq-Decides indexes name i found

-- An element is what its key finds where keys are distinct.
module _ {X K : Type 0} (key : X → K) (test : K → K → Bool) (decides : (a b : K) → Decides (test a b) (a ≡ b)) where
  own_step : (x : X) (k : K) (rest : Option X) (found : X) (b : Bool) → test (key x) k ≡ b → key x ≢ k → rest ≡ Some found → cond b (Some x) rest ≡ Some found
  own_step x k rest found true is differ some = absurd (differ ((decides (key x) k).0 is))
  own_step x k rest found false is differ some = some

  differs_there : (xs : List X) (one : X) (k : K) → AllByRecursion (λ other. other ≢ k) (map key xs) → IsAmong one xs → key one ≢ k
  differs_there [] one k differ among = absurd among
  differs_there (x ∷ xs) one k differ (inl same) = λ is. differ.0 (ap key same ∙ is)
  differs_there (x ∷ xs) one k differ (inr later) = differs_there xs one k differ.1 later

  pub own_found : (xs : List X) (one : X) → AreDistinct (map key xs) → IsAmong one xs → find (λ y. test (key y) (key one)) xs ≡ Some one
  own_found [] one distinct among = absurd among
  own_found (x ∷ xs) one distinct (inl same) =
      ap (λ (b : Bool). cond b (Some x) (find (λ y. test (key y) (key one)) xs)) ((decides (key x) (key one)).1 (ap key same)) ∙ ap (λ (y : X). Some y) same
  own_found (x ∷ xs) one distinct (inr later) =
      own_step x (key one) (find (λ y. test (key y) (key one)) xs) one (test (key x) (key one)) refl (λ is. differs_there xs one (key x) distinct.0 later (sym is)) (own_found xs one distinct.1 later)

pub own_named : (tables : List TableInfo) (indexes : List IndexInfo) (t : TableInfo) → AreCatalog tables indexes → IsAmong t tables → table_named t.name tables ≡ Some t
own_named tables indexes t are among = own_found (λ (u : TableInfo). u.name) bytes_eq bytes_eq-Decides tables t are.names among

pub own_numbered : (tables : List TableInfo) (indexes : List IndexInfo) (t : TableInfo) → AreCatalog tables indexes → IsAmong t tables → table_numbered t.number tables ≡ Some t
own_numbered tables indexes t are among = own_found (λ (u : TableInfo). u.number) (λ a b. a == b) Decides-eqb tables t are.numbers among

pub own_index : (tables : List TableInfo) (indexes : List IndexInfo) (i : IndexInfo) → AreCatalog tables indexes → IsAmong i indexes → index_named i.name indexes ≡ Some i
own_index tables indexes i are among = own_found (λ (j : IndexInfo). j.name) bytes_eq bytes_eq-Decides indexes i are.index_names among

-- no index is on a table on which none is counted
bare_step : (number : ℕ) (i : IndexInfo) (rest : ℕ) (b : Bool) → (i.table == number) ≡ b → cond b 1 0 + rest ≡ 0 → (i.table ≢ number) × (rest ≡ 0)
bare_step number i rest true same none = absurd (omega (arith, none))
bare_step number i rest false same none = ((λ is. let never : false ≡ true = sym same ∙ (Decides-eqb i.table number).1 is in cc), omega (arith, none))

pub none_bare : (number : ℕ) (indexes : List IndexInfo) → count_on number indexes ≡ 0 → HasNoIndex number indexes
none_bare number [] none = tt
none_bare number (i ∷ indexes) none =
    let cut = sum_by-append (λ (j : IndexInfo). cond (j.table == number) 1 0) (i ∷ []) indexes in
    let step = bare_step number i (count_on number indexes) (i.table == number) refl (omega (arith, cut, none)) in
    (step.0, none_bare number indexes step.1)

count_other : (number : ℕ) (i : IndexInfo) (rest : ℕ) (b : Bool) → (i.table == number) ≡ b → i.table ≢ number → rest ≡ 0 → cond b 1 0 + rest ≡ 0
count_other number i rest true same differ none = absurd (differ ((Decides-eqb i.table number).0 same))
count_other number i rest false same differ none = omega (arith, none)

pub bare_none : (number : ℕ) (indexes : List IndexInfo) → HasNoIndex number indexes → count_on number indexes ≡ 0
bare_none number [] bare = refl
bare_none number (i ∷ indexes) bare =
    let cut = sum_by-append (λ (j : IndexInfo). cond (j.table == number) 1 0) (i ∷ []) indexes in
    let step = count_other number i (count_on number indexes) (i.table == number) refl bare.0 (bare_none number indexes bare.1) in
    omega (arith, cut, step)
