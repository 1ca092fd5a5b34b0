-- The rows of INSERT are read, or some check finds a fault.
use Rattle.std.proofs.Common.{◌≡◌, ◌⊎◌, inl, inr, ℕ, ◌<◌, ◌≤◌, ◌==◌, nat_le, nat_lt, suc, Bool, true, false, not, ◌||◌, List, [], ◌∷◌, ◌++◌, length, map, Option, Some, None, refl, ap, arith}
use Rattle.std.specs.Prelude.{is_none}
use Rattle.std.specs.List.{AllByRecursion, filter_map, list_any}
use Rattle.std.specs.Str.{bytes_eq}
use Rattle.std.proofs.lemmas.Bool.Decides.{Decides-eqb, nat_tests}
use Rattle.gx_value.specs.declared.fields.Column.{Column}
use Rattle.gx_value.specs.Rows.{IsRowBytes, row_limit}
use Rattle.gx_value.specs.Values.{Datum, IsField}
use Rattle.gx_value.specs.Literals.{Reads}
use Rattle.gx_parse.specs.declared.statement.Given.{Given}
use Rattle.gx_parse.specs.Sound.{IsGiven, RowsHaveLiterals}
use Rattle.gx_model.specs.Checks.{Fails, fault_where, is_value, fits}
use Rattle.gx_model.specs.Conditions.{cast_type, is_unknown_type}
use Rattle.gx_model.specs.Database.{AreDistinct, Table, column_named, end_of_numbers}
use Rattle.gx_model.specs.Faults.{list_checks, listed_checks, width_of, is_of_other_width, width_check, is_other_type, value_checks, values_checks, rows_checks, insert_checks}
use Rattle.gx_model.specs.Totality.{AreTotal}
use Rattle.gx_model.specs.Values.{named, fields_of, IsRead, ReadsValues, ReadsRow, ReadsRows}
use Rattle.gx_model.proofs.Coming.{Comes, more, join, nothing, tested, one_check}
use Rattle.gx_model.proofs.Lists.{any_parts}
use Rattle.gx_model.proofs.NewRows.{IsNamed, all_named, targets_named, is_row}

-- The listed names.

one_more : (columns : List Column) (name : List ℕ) (names : List (List ℕ)) (o : Option Column) → column_named columns name ≡ o → is_none o ≡ false → length (filter_map (column_named columns) names) ≡ length names
    → length (filter_map (column_named columns) (name ∷ names)) ≡ suc (length names)
one_more columns name names None is some long = cc
one_more columns name names (Some c) is some long = rw is (ap suc long)

listed : (columns : List Column) (before names : List (List ℕ)) → Comes (length (filter_map (column_named columns) names) ≡ length names) (listed_checks columns before names)
listed columns before [] = nothing refl
listed columns before (name ∷ names) =
    let next = before ++ name ∷ [] in
    let second = fault_where 5 (list_any (bytes_eq name) before) ∷ listed_checks columns next names in
    let L : Type 0 = length (filter_map (column_named columns) names) ≡ length names in
    more (listed_checks columns before (name ∷ names)) (λ (h : (is_none (column_named columns name) ≡ false) × ((list_any (bytes_eq name) before ≡ false) × L)). one_more columns name names (column_named columns name) refl h.0 h.1.1)
    (join (fault_where 4 (is_none (column_named columns name)) ∷ []) second (tested 4 (is_none (column_named columns name)))
    (λ _. join (fault_where 5 (list_any (bytes_eq name) before) ∷ []) (listed_checks columns next names) (tested 5 (list_any (bytes_eq name) before)) (λ _. listed columns next names)))

-- a row of the wanted width fits the columns that are named
abbrev FitsNamed : List Column → Option (List (List ℕ)) → Type 0
FitsNamed columns names = (row : List Given) (width : ℕ) → length row ≤ length columns → length row ≡ width → ((ns : List (List ℕ)) → names ≡ Some ns → width ≡ length ns) → length row ≤ length (named columns names)

list_comes : (columns : List Column) (names : Option (List (List ℕ))) → Comes (FitsNamed columns names) (list_checks columns names)
list_comes columns None = nothing (λ row width few is wide. few)
list_comes columns (Some names) =
    more (listed_checks columns [] names) (λ (long : length (filter_map (column_named columns) names) ≡ length names). λ row width few is wide. let w = wide names refl in omega (arith, is, w, long)) (listed columns [] names)

-- The widths.

neither : (a b : Bool) → (a || b) ≡ false → (a ≡ false) × (b ≡ false)
neither true b h = cc
neither false b h = (refl, h)

was_not : (b : Bool) → not b ≡ false → b ≡ true
was_not true h = refl
was_not false h = cc

abbrev HasWidth : List Column → ℕ → List Given → Type 0
HasWidth columns width row = (length row ≤ length columns) × (length row ≡ width)

has_width : (columns : List Column) (width : ℕ) (row : List Given) → is_of_other_width columns width row ≡ false → HasWidth columns width row
has_width columns width row none =
    let h = neither (nat_lt (length columns) (length row)) (not (length row == width)) none in
    let first = h.0 in
    let few : length row ≤ length columns = grind (arith, nat_tests) in
    (few, (Decides-eqb (length row) width).0 (was_not (length row == width) h.1))

have_width : (columns : List Column) (width : ℕ) (rows : List (List Given)) → list_any (is_of_other_width columns width) rows ≡ false → AllByRecursion (HasWidth columns width) rows
have_width columns width [] none = tt
have_width columns width (row ∷ rows) none =
    let h = any_parts (is_of_other_width columns width) row rows none in
    (has_width columns width row h.0, have_width columns width rows h.1)

-- The values of a row.

value_step : (c : Column) (g : Given) → ((value : Option Datum) × Reads c.kind g.literal value × IsField c.kind value) ⊎ ((n : ℕ) × Fails (is_value c.kind g.literal) n)
    → Comes ((value : Option Datum) × IsRead c g value) (is_value c.kind g.literal ∷ [])
value_step c g (inl h) = inl ((h.0, record { read = h.1; valid = h.2 }), inl ((h.0, h.1), refl))
value_step c g (inr h) = inr (h.0, inr (h.0, h.1, refl))

abbrev ReadValue : Column → Given → Type 0
ReadValue c g = (value : Option Datum) × IsRead c g value

value : AreTotal → (c : Column) (g : Given) → IsGiven g → Comes (ReadValue c g) (value_checks c g)
value total c g is =
    let unknown = is_unknown_type g.cast in
    let other = is_other_type c.kind (cast_type g.cast) in
    let last = is_value c.kind g.literal ∷ [] in
    more (value_checks c g) (λ (h : (unknown ≡ false) × ((other ≡ false) × ReadValue c g)). h.1.1)
    (join (fault_where 6 unknown ∷ []) (fault_where 8 other ∷ last) (tested 6 unknown)
    (λ _. join (fault_where 8 other ∷ []) last (tested 8 other) (λ _. value_step c g (total.values c.kind g.literal is))))

abbrev ReadAll : List Column → List Given → Type 0
ReadAll targets row = (values : List (Option Datum)) × ReadsValues targets row values

values : AreTotal → (targets : List Column) (row : List Given) → AllByRecursion IsGiven row → length row ≤ length targets → Comes (ReadAll targets row) (values_checks targets row)
values total [] [] are few = nothing ([], refl)
values total (c ∷ cs) [] are few = nothing ([], refl)
values total [] (g ∷ gs) are few = absurd (omega (arith, few))
values total (c ∷ cs) (g ∷ gs) are few =
    more (value_checks c g ++ values_checks cs gs) (λ (h : ReadValue c g × ReadAll cs gs). (h.0.0 ∷ h.1.0, (h.0.1, h.1.1)))
    (join (value_checks c g) (values_checks cs gs) (value total c g are.0) (λ _. values total cs gs are.1 (omega (arith, few))))

-- The bytes of a row.

fits_step : (columns targets : List Column) (row : List Given) (fields : List (Option Datum)) (bytes : List ℕ) → ReadsRow columns targets row fields → IsRowBytes bytes fields → (b : Bool) → nat_le (length bytes) row_limit ≡ b
    → Comes (Unit {0}) (fits columns targets row ∷ [])
fits_step columns targets row fields bytes read is true short =
    let few : length bytes ≤ row_limit = grind (arith, nat_tests) in
    one_check (fits columns targets row) (inl (tt, (fields, bytes, read, is, few)))
fits_step columns targets row fields bytes read is false long =
    let many : row_limit < length bytes = grind (arith, nat_tests) in
    one_check (fits columns targets row) (inr (10, (fields, bytes, read, is, many, refl)))

module _ (total : AreTotal) (columns targets : List Column) (distinct : AreDistinct (map (λ c. c.name) columns)) (are_named : AllByRecursion (IsNamed columns) targets) where
  fits_comes : (row : List Given) → ReadAll targets row → Comes (Unit {0}) (fits columns targets row ∷ [])
  fits_comes row all =
      let fields = fields_of columns targets all.0 in
      let read : ReadsRow columns targets row fields = (all.0, all.1, refl) in
      let bytes = total.rows (map (λ c. c.kind) columns) fields (is_row columns targets row fields read are_named (all_named columns distinct)) in
      fits_step columns targets row fields bytes.0 read bytes.1 (nat_le (length bytes.0) row_limit) refl

  rows_come : (number : ℕ) (rows : List (List Given)) → RowsHaveLiterals rows → AllByRecursion (λ row. length row ≤ length targets) rows
      → Comes ((added : List (List (Option Datum))) × ReadsRows columns targets rows added) (rows_checks columns targets number rows)
  rows_come number [] are few = nothing ([], refl)
  rows_come number (row ∷ rows) are few =
      let late = nat_le end_of_numbers number in
      let rest = rows_checks columns targets (suc number) rows in
      let R : Type 0 = (added : List (List (Option Datum))) × ReadsRows columns targets rows added in
      more (values_checks targets row ++ fits columns targets row ∷ fault_where 21 late ∷ rest)
      (λ (h : ReadAll targets row × (Unit {0} × ((late ≡ false) × R))). (fields_of columns targets h.0.0 ∷ h.1.1.1.0, ((h.0.0, h.0.1, refl), h.1.1.1.1)))
      (join (values_checks targets row) (fits columns targets row ∷ fault_where 21 late ∷ rest) (values total targets row are.0 few.0)
      (λ all. join (fits columns targets row ∷ []) (fault_where 21 late ∷ rest) (fits_comes row all)
      (λ _. join (fault_where 21 late ∷ []) rest (tested 21 late) (λ _. rows_come (suc number) rows are.1 few.1))))

few_of : (columns : List Column) (names : Option (List (List ℕ))) (width : ℕ) → FitsNamed columns names → ((ns : List (List ℕ)) → names ≡ Some ns → width ≡ length ns) → (rows : List (List Given)) → AllByRecursion (HasWidth columns width) rows
    → AllByRecursion (λ row. length row ≤ length (named columns names)) rows
few_of columns names width fit wide [] have = tt
few_of columns names width fit wide (row ∷ rows) have = (fit row width have.0.0 have.0.1 wide, few_of columns names width fit wide rows have.1)

width_is : (names : Option (List (List ℕ))) (rows : List (List Given)) (ns : List (List ℕ)) → names ≡ Some ns → width_of names rows ≡ length ns
width_is names rows ns is = ap (λ (o : Option (List (List ℕ))). width_of o rows) is

pub insert_comes : AreTotal → (names : Option (List (List ℕ))) (rows : List (List Given)) (t : Table) → RowsHaveLiterals rows → AreDistinct (map (λ c. c.name) t.columns)
    → Comes ((added : List (List (Option Datum))) × ReadsRows t.columns (named t.columns names) rows added) (insert_checks names rows t)
insert_comes total names rows t are distinct =
    let other = list_any (is_of_other_width t.columns (width_of names rows)) rows in
    let targets = named t.columns names in
    let rest = rows_checks t.columns targets t.next rows in
    let R : Type 0 = (added : List (List (Option Datum))) × ReadsRows t.columns targets rows added in
    more (insert_checks names rows t) (λ (h : FitsNamed t.columns names × ((other ≡ false) × R)). h.1.1)
    (join (list_checks t.columns names) (width_check t.columns names rows ∷ rest) (list_comes t.columns names)
    (λ fit. join (width_check t.columns names rows ∷ []) rest (tested 7 other)
    (λ none. rows_come total t.columns targets distinct (targets_named t.columns names distinct) t.next rows are
    (few_of t.columns names (width_of names rows) fit (width_is names rows) rows (have_width t.columns (width_of names rows) rows none)))))
