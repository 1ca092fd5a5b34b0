-- The rows of an INSERT on pages.
use Rattle.std.proofs.Common.{◌≡◌, inl, inr, ℕ, suc, ◌+◌, ◌^◌, ◌<◌, ◌≤◌, nat_le, false, List, [], ◌∷◌, ◌++◌, length, map, Option, Some, None, refl, sym, subst, arith}
use Rattle.std.specs.List.{AllZip}
use Rattle.std.proofs.lemmas.Bool.Decides.{nat_tests}
use Rattle.gx_heap.specs.Heaps as heaps
use Rattle.gx_value.specs.declared.fields.Column.{Column}
use Rattle.gx_value.specs.Rows.{SpellsRow}
use Rattle.gx_value.specs.Values.{Datum}
use Rattle.gx_parse.specs.declared.statement.Given.{Given}
use Rattle.gx_model.specs.Checks.{Check, Passes, Find, fault_where, fits}
use Rattle.gx_model.specs.Database.{Table, end_of_numbers, numbered}
use Rattle.gx_model.specs.Faults.{insert_checks, list_checks, rows_checks, values_checks, width_check}
use Rattle.gx_model.specs.Values.{ReadsRows, named}
use Rattle.gx_database.specs.Standing.{SpellsStored}
use Rattle.gx_change.specs.Appended.{AreNumbered}

-- one row more
pub numbered_more : (n : ℕ) (xs : List (List ℕ)) (x : List ℕ) (more : List heaps.Row) (row : heaps.Row) → AreNumbered n xs more → row.0.number ≡ n + length xs → row.1 ≡ x
    → AreNumbered n (xs ++ x ∷ []) (more ++ row ∷ [])
numbered_more n [] x more row are number bytes = subst (λ (l : List heaps.Row). AreNumbered n (x ∷ []) (l ++ row ∷ [])) (sym are) (omega (arith, number), bytes, refl)
numbered_more n (y ∷ xs) x [] row are number bytes = absurd are
numbered_more n (y ∷ xs) x (m ∷ more) row are number bytes = (are.0, are.1, numbered_more (suc n) xs x more row are.2 (omega (arith, number)) bytes)

-- what was appended spells what the statement adds
pub spelled_more : (columns : List Column) (n : ℕ) (bytes : List (List ℕ)) (added : List (List (Option Datum))) (more : List heaps.Row)
    → AllZip (λ row fields. SpellsRow (map (λ (c : Column). c.kind) columns) row fields) bytes added → AreNumbered n bytes more → AllZip (SpellsStored columns) (numbered n added) more
spelled_more columns n [] [] more spelled are = subst (λ (l : List heaps.Row). AllZip (SpellsStored columns) [] l) (sym are) tt
spelled_more columns n [] (fields ∷ added) more spelled are = absurd spelled
spelled_more columns n (b ∷ bytes) [] more spelled are = absurd spelled
spelled_more columns n (b ∷ bytes) (fields ∷ added) [] spelled are = absurd are
spelled_more columns n (b ∷ bytes) (fields ∷ added) (m ∷ more) spelled are = (
  record { number = are.0; spelled = subst (λ (l : List ℕ). SpellsRow (map (λ (c : Column). c.kind) columns) l fields) (sym are.1) spelled.0 },
  spelled_more columns (suc n) bytes added more spelled.1 are.2,
)

pub zip_join : {A B : Type 0} (R : A → B → Type 0) (xs us : List A) (ys vs : List B) → AllZip R xs ys → AllZip R us vs → AllZip R (xs ++ us) (ys ++ vs)
zip_join R [] us [] vs first second = second
zip_join R [] us (y ∷ ys) vs first second = absurd first
zip_join R (x ∷ xs) us [] vs first second = absurd first
zip_join R (x ∷ xs) us (y ∷ ys) vs first second = (first.0, zip_join R xs us ys vs first.1 second)

pub zip_length : {A B : Type 0} (R : A → B → Type 0) (xs : List A) (ys : List B) → AllZip R xs ys → length xs ≡ length ys
zip_length R [] [] all = refl
zip_length R [] (y ∷ ys) all = absurd all
zip_length R (x ∷ xs) [] all = absurd all
zip_length R (x ∷ xs) (y ∷ ys) all = let rest = zip_length R xs ys all.1 in omega (arith, rest)

pub reads_length : (columns targets : List Column) (rows : List (List Given)) (added : List (List (Option Datum))) → ReadsRows columns targets rows added → length added ≡ length rows
reads_length columns targets [] added reads = subst (λ (l : List (List (Option Datum))). length l ≡ 0) (sym reads) refl
reads_length columns targets (row ∷ rows) [] reads = absurd reads
reads_length columns targets (row ∷ rows) (fields ∷ added) reads = let rest = reads_length columns targets rows added reads.1 in omega (arith, rest)

-- Checks that find nothing.

passed : (c : Check) (cs : List Check) → Find (c ∷ cs) None → Passes c × Find cs None
passed c cs (inl h) = (h.0, h.1)
passed c cs (inr h) = absurd (none h.0 h.2)
  where
    none : (n : ℕ) → None ≡ Some n → ⊥
    none n e = cc

passed_behind : (front rest : List Check) → Find (front ++ rest) None → Find rest None
passed_behind [] rest h = h
passed_behind (c ∷ front) rest h = passed_behind front rest (passed c (front ++ rest) h).1

below_end : (n : ℕ) → nat_le end_of_numbers n ≡ false → n < 2 ^ 48
below_end n e = grind (arith, nat_tests)

rows_fit : (columns targets : List Column) (n : ℕ) (rows : List (List Given)) → n ≤ 2 ^ 48 → Find (rows_checks columns targets n rows) None → n + length rows ≤ 2 ^ 48
rows_fit columns targets n [] most none = omega (arith, most)
rows_fit columns targets n (row ∷ rows) most none =
    let more : List Check = rows_checks columns targets (suc n) rows in
    let number : Check = fault_where 21 (nat_le end_of_numbers n) in
    let behind = passed_behind (values_checks targets row) (fits columns targets row ∷ number ∷ more) none in
    let last = passed number more (passed (fits columns targets row) (number ∷ more) behind).1 in
    let below : n < 2 ^ 48 = below_end n last.0 in
    let rest = rows_fit columns targets (suc n) rows (omega (arith, below)) last.1 in
    omega (arith, rest)

-- the numbers of the rows are numbers of rows
pub numbers_fit : (t : Table) (listed : Option (List (List ℕ))) (rows : List (List Given)) → t.next ≤ 2 ^ 48 → Find (insert_checks listed rows t) None → t.next + length rows ≤ 2 ^ 48
numbers_fit t listed rows most none =
    let more : List Check = rows_checks t.columns (named t.columns listed) t.next rows in
    let behind = passed_behind (list_checks t.columns listed) (width_check t.columns listed rows ∷ more) none in
    rows_fit t.columns (named t.columns listed) t.next rows most (passed (width_check t.columns listed rows) more behind).1
