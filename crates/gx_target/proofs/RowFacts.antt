-- The rows of INSERT, one after another.
use Rattle.std.proofs.Common.{◌≡◌, ◌==◌, ◌⊎◌, inl, inr, ℕ, suc, ◌<◌, ◌≤◌, ◌+◌, ◌^◌, add-one, Bool, true, false, not, ◌||◌, nat_lt, nat_le, get_or, List, [], ◌∷◌, ◌++◌, length, map, drop, append_assoc, append-nil, Option, Some, None, is_none, Result, Ok, Err, MatchResult, refl, sym, ap, ap₂, ◌∙◌, subst, arith}
use Rattle.std.proofs.lemmas.Bool.Decides.{nat_tests, Decides-eqb}
use Rattle.std.proofs.lemmas.List.{drop_all}
use Rattle.std.specs.List.{AllByRecursion, cons_option, filter_map, list_any}
use Rattle.std.specs.Str.{bytes_eq}
use Rattle.gx_parse.specs.declared.statement.Given.{Given}
use Rattle.gx_value.specs.declared.fields.Column.{Column}
use Rattle.gx_value.specs.declared.rows.RowError.{RowError}
use Rattle.gx_value.specs.declared.rows.RowError.TheVariants.{TooLong}
use Rattle.gx_value.specs.Rows.{IsRowBytes, RefusesRow, row_limit}
use Rattle.gx_value.specs.Values.{Datum}
use Rattle.gx_model.specs.Checks.{Check, Find, fault_where, fits}
use Rattle.gx_model.specs.Database.{Table, column_named, end_of_numbers}
use Rattle.gx_model.specs.Faults.{insert_checks, list_checks, listed_checks, rows_checks, values_checks, width_check, width_of, is_of_other_width}
use Rattle.gx_model.specs.Refusals.{Refuses}
use Rattle.gx_model.specs.Values.{named, ReadsRow, ReadsRows}
use Rattle.gx_model.specs.declared.refusal.Refusal.{Refusal}
use Rattle.gx_model.specs.declared.refusal.Refusal.TheVariants.{Fault, Memory}
use Rattle.gx_model.proofs.Finding.{find_behind, find_front, refuse_behind, refuse_front}
use Rattle.gx_target.specs.Encoded.{EncodeFor, EncodesRow, IsReadRow, row_checks}
use Rattle.gx_target.specs.Places.{ArePlaces, columns_at, HasPlaces}
use Rattle.gx_target.proofs.Lists.{drop_next, not_below, or_false}
use Rattle.gx_target.proofs.TargetFacts.{kinds_of, length_columns_at}

-- ---- one row

pub row_encoded : (columns targets : List Column) (row : List Given) (fields : List (Option Datum)) (bytes : List ℕ) → Find (values_checks targets row) None → IsReadRow columns targets row fields
    → IsRowBytes bytes fields → length bytes ≤ row_limit → EncodesRow columns targets row bytes
row_encoded columns targets row fields bytes passes read encoded short =
    record {
      fields = fields;
      passes = find_behind (values_checks targets row) (fits columns targets row ∷ []) None passes (inl ((fields, bytes, read.read, encoded, short), refl));
      read = read.read;
      spelled = record { is_row = read.valid; is_bytes = encoded };
      short = short;
    }

pub row_refused : (columns targets : List Column) (row : List Given) (r : Refusal) → Refuses (values_checks targets row) r → Refuses (row_checks columns targets row) r
row_refused columns targets row r refuses = refuse_front (values_checks targets row) (fits columns targets row ∷ []) r refuses

pub row_too_long : (columns targets : List Column) (row : List Given) (fields : List (Option Datum)) (e : RowError) (n : ℕ) → e ≡ TooLong n → ReadsRow columns targets row fields → RefusesRow fields e
    → Find (fits columns targets row ∷ []) (Some 10)
row_too_long columns targets row fields e n is read refuses =
    let told = subst (λ (x : RowError). RefusesRow fields x) is refuses in
    let long : row_limit < length told.0 = omega (arith, told.2, told.3) in
    inr (10, (fields, told.0, read, told.1, long, refl), refl)

pub row_unfit : (columns targets : List Column) (row : List Given) (r : Refusal) → Find (values_checks targets row) None → Refuses (fits columns targets row ∷ []) r → Refuses (row_checks columns targets row) r
row_unfit columns targets row r passes refuses = refuse_behind (values_checks targets row) (fits columns targets row ∷ []) r passes refuses

-- ---- row by row

is_le : (m n : ℕ) → m ≤ n → nat_le m n ≡ true
is_le m n less = grind (arith, nat_tests)

not_le : (m n : ℕ) → n < m → nat_le m n ≡ false
not_le m n less = grind (arith, nat_tests)

-- What the checks of the rows that are left find is what all find, and these rows' bytes stand in front of those.
pub record Encoding (columns targets : List Column) (rows : List (List Given)) (first : ℕ) (bytes : List (List ℕ)) (number : ℕ) (rest : List (List Given)) : Type 0 where
  pub finds : (found : Option ℕ) → Find (rows_checks columns targets number rest) found → Find (rows_checks columns targets first rows) found
  pub encodes : (more : List (List ℕ)) → EncodeFor columns targets rest more → EncodeFor columns targets rows (bytes ++ more)
  pub few : number ≤ 2 ^ 48

pub encoding_none : (columns targets : List Column) (rows : List (List Given)) (first : ℕ) → first ≤ 2 ^ 48 → Encoding columns targets rows first [] first rows
encoding_none columns targets rows first few = record { finds = λ found f. f; encodes = λ more e. e; few = few }

module _ (columns targets : List Column) (rows : List (List Given)) (first i number : ℕ) (bytes : List (List ℕ)) (row d : List Given) (below : i < length rows) (is : row ≡ get_or rows i d)
    (h : Encoding columns targets rows first bytes number (drop i rows))
  where
    next_encoding : Encoding columns targets rows first bytes number (row ∷ drop (i + 1) rows)
    next_encoding =
        let P : List (List Given) → Type 0 = λ l. Encoding columns targets rows first bytes number l in
        subst P (drop_next rows i row d below is) h

    behind_row : (found : Option ℕ) (rest : List Check) → Find (row_checks columns targets row ++ rest) found → Find (values_checks targets row ++ fits columns targets row ∷ rest) found
    behind_row found rest f =
        let P : List Check → Type 0 = λ l. Find l found in
        subst P (append_assoc (values_checks targets row) (fits columns targets row ∷ []) rest) f

    pub encoding_refused : (r : Refusal) → Refuses (row_checks columns targets row) r → Refuses (rows_checks columns targets first rows) r
    encoding_refused (Fault n) refuses =
        let more = fault_where 21 (nat_le end_of_numbers number) ∷ rows_checks columns targets (suc number) (drop (i + 1) rows) in
        next_encoding.finds (Some n) (behind_row (Some n) more (find_front (row_checks columns targets row) more n refuses))
    encoding_refused Memory refuses = tt

    module _ (passes : Find (row_checks columns targets row) None) where
      pub no_number : 2 ^ 48 ≤ number → Find (rows_checks columns targets first rows) (Some 21)
      no_number above =
          let more = fault_where 21 (nat_le end_of_numbers number) ∷ rows_checks columns targets (suc number) (drop (i + 1) rows) in
          let full : nat_le end_of_numbers number ≡ true = is_le end_of_numbers number above in
          next_encoding.finds (Some 21) (behind_row (Some 21) more (find_behind (row_checks columns targets row) more (Some 21) passes (inr (21, (full, refl), refl))))

      finds_more : number < 2 ^ 48 → (found : Option ℕ) → Find (rows_checks columns targets (number + 1) (drop (i + 1) rows)) found → Find (rows_checks columns targets first rows) found
      finds_more less found f =
          let more = fault_where 21 (nat_le end_of_numbers number) ∷ rows_checks columns targets (suc number) (drop (i + 1) rows) in
          let room : nat_le end_of_numbers number ≡ false = not_le end_of_numbers number less in
          let P : ℕ → Type 0 = λ n. Find (rows_checks columns targets n (drop (i + 1) rows)) found in
          next_encoding.finds found (behind_row found more (find_behind (row_checks columns targets row) more found passes (inl (room, subst P (add-one number) f))))

    pub encoding_more : (one : List ℕ) (longer : List (List ℕ)) → EncodesRow columns targets row one → number < 2 ^ 48 → longer ≡ bytes ++ one ∷ [] → Encoding columns targets rows first longer (number + 1) (drop (i + 1) rows)
    encoding_more one longer encoded less grown =
        record {
          finds = finds_more encoded.passes less;
          encodes = λ more e.
              let whole : EncodeFor columns targets (row ∷ drop (i + 1) rows) (one ∷ more) = record {
                added = encoded.fields ∷ e.added;
                read = (encoded.read, e.read);
                spelled = (encoded.spelled, e.spelled);
                short = (encoded.short, e.short);
              } in
              subst (EncodeFor columns targets rows) (sym (ap (λ (l : List (List ℕ)). l ++ more) grown ∙ append_assoc bytes (one ∷ []) more)) (next_encoding.encodes (one ∷ more) whole);
          few = omega arith;
        }

pub all_encoded : (columns targets : List Column) (rows : List (List Given)) (first i number : ℕ) (bytes : List (List ℕ)) → length rows ≤ i → Encoding columns targets rows first bytes number (drop i rows)
    → Find (rows_checks columns targets first rows) None × EncodeFor columns targets rows bytes
all_encoded columns targets rows first i number bytes above h =
    let P : List (List Given) → Type 0 = λ l. Encoding columns targets rows first bytes number l in
    let whole = subst P (drop_all i rows above) h in
    let none : EncodeFor columns targets [] [] = record { added = []; read = refl; spelled = tt; short = tt } in
    (whole.finds None refl, subst (EncodeFor columns targets rows) (append-nil bytes) (whole.encodes [] none))

-- ---- how many values a row has

holds_of : (r : Bool) → not r ≡ false → r ≡ true
holds_of true e = refl
holds_of false e = cc

is_wide : (columns : List Column) (width : ℕ) (row : List Given) → is_of_other_width columns width row ≡ false → (length row ≤ length columns) × (length row ≡ width)
is_wide columns width row e =
    let parts = or_false (nat_lt (length columns) (length row)) (not (length row == width)) e in
    (not_below (length columns) (length row) parts.0, (Decides-eqb (length row) width).0 (holds_of (length row == width) parts.1))

pub few_values : (columns : List Column) (width limit : ℕ) (rows : List (List Given)) → list_any (is_of_other_width columns width) rows ≡ false → (length columns ≤ limit) ⊎ (width ≤ limit)
    → AllByRecursion (λ row. length row ≤ limit) rows
few_values columns width limit [] none bound = tt
few_values columns width limit (row ∷ rows) none bound =
    let parts = or_false (is_of_other_width columns width row) (list_any (is_of_other_width columns width) rows) none in
    let wide = is_wide columns width row parts.0 in
    let fewer : length row ≤ limit = elim bound as (λ _. length row ≤ limit) [ inl all ↦ omega (arith, wide.0, wide.1) | inr same ↦ omega (arith, wide.0, wide.1) ] in
    (fewer, few_values columns width limit rows parts.1 bound)

-- all listed names are found
found_step : (columns : List Column) (name : List ℕ) (found : Option Column) (rest : List Column) → is_none found ≡ false → length (cons_option found rest) ≡ suc (length rest)
found_step columns name (Some c) rest e = refl
found_step columns name None rest e = cc

listed_step : (columns : List Column) (name : List ℕ) (names : List (List ℕ)) (again : Bool) (rest : List Check) → (Find rest None → length (filter_map (column_named columns) names) ≡ length names)
    → is_none (column_named columns name) ≡ false → Find (fault_where 5 again ∷ rest) None → length (filter_map (column_named columns) (name ∷ names)) ≡ suc (length names)
listed_step columns name names again rest same is (inl f) =
    found_step columns name (column_named columns name) (filter_map (column_named columns) names) is ∙ ap suc (same f.1)
listed_step columns name names again rest same is (inr f) = cc f.2

listed_length : (columns : List Column) (before names : List (List ℕ)) → Find (listed_checks columns before names) None → length (filter_map (column_named columns) names) ≡ length names
listed_length columns before [] f = refl
listed_length columns before (name ∷ names) (inl f) =
    listed_step columns name names (list_any (bytes_eq name) before) (listed_checks columns (before ++ name ∷ []) names) (listed_length columns (before ++ name ∷ []) names) f.0 f.1
listed_length columns before (name ∷ names) (inr f) = cc f.2

-- so each value has a place
pub widths_fit : (columns : List Column) (listed : Option (List (List ℕ))) (places : List ℕ) (rows : List (List Given)) → Find (list_checks columns listed) None → ArePlaces columns listed places
    → list_any (is_of_other_width columns (width_of listed rows)) rows ≡ false → AllByRecursion (λ row. length row ≤ length places) rows
widths_fit columns None places rows found are none =
    let same : length places ≡ length columns = sym (length_columns_at columns places are.there) ∙ ap length are.named in
    let bound : length columns ≤ length places = omega arith in
    few_values columns (width_of None rows) (length places) rows none (inl bound)
widths_fit columns (Some names) places rows found are none =
    let same : length places ≡ length names = sym (length_columns_at columns places are.there) ∙ ap length are.named ∙ listed_length columns [] names found in
    let bound : length names ≤ length places = omega arith in
    few_values columns (length names) (length places) rows none (inr bound)

-- ---- the whole statement

abbrev checks_of : List Column → Option (List (List ℕ)) → ℕ → List (List Given) → List Check
checks_of columns listed next rows = list_checks columns listed ++ width_check columns listed rows ∷ rows_checks columns (named columns listed) next rows

module _ (columns : List Column) (listed : Option (List (List ℕ))) (next : ℕ) (rows : List (List Given)) (t : Table) (columns_are : t.columns ≡ columns) (next_is : t.next ≡ next) where
  whole : checks_of columns listed next rows ≡ insert_checks listed rows t
  whole = ap₂ (λ (c : List Column) (n : ℕ). checks_of c listed n rows) (sym columns_are) (sym next_is)

  pub list_refused : (r : Refusal) → Refuses (list_checks columns listed) r → Refuses (insert_checks listed rows t) r
  list_refused r refuses =
      let P : List Check → Type 0 = λ l. Refuses l r in
      subst P whole (refuse_front (list_checks columns listed) (width_check columns listed rows ∷ rows_checks columns (named columns listed) next rows) r refuses)

  module _ (found : Find (list_checks columns listed) None) where
    pub width_refused : list_any (is_of_other_width columns (width_of listed rows)) rows ≡ true → Find (insert_checks listed rows t) (Some 7)
    width_refused other =
        let P : List Check → Type 0 = λ l. Find l (Some 7) in
        subst P whole (find_behind (list_checks columns listed) (width_check columns listed rows ∷ rows_checks columns (named columns listed) next rows) (Some 7) found (inr (7, (other, refl), refl)))

    module _ (same : list_any (is_of_other_width columns (width_of listed rows)) rows ≡ false) where
      passing : (n : Option ℕ) → Find (rows_checks columns (named columns listed) next rows) n → Find (insert_checks listed rows t) n
      passing n f =
          let P : List Check → Type 0 = λ l. Find l n in
          subst P whole (find_behind (list_checks columns listed) (width_check columns listed rows ∷ rows_checks columns (named columns listed) next rows) n found (inl (same, f)))

      pub rows_refused : (places : List ℕ) (r : Refusal) → ArePlaces columns listed places → Refuses (rows_checks columns (columns_at columns places) next rows) r → Refuses (insert_checks listed rows t) r
      rows_refused places (Fault n) are refuses = passing (Some n) (subst (λ (ts : List Column). Find (rows_checks columns ts next rows) (Some n)) are.named refuses)
      rows_refused places Memory are refuses = tt

      pub rows_encoded : (places : List ℕ) (bytes : List (List ℕ)) → ArePlaces columns listed places → Find (rows_checks columns (columns_at columns places) next rows) None × EncodeFor columns (columns_at columns places) rows bytes
          → Find (insert_checks listed rows t) None × EncodeFor columns (named columns listed) rows bytes
      rows_encoded places bytes are encoded = (
        passing None (subst (λ (ts : List Column). Find (rows_checks columns ts next rows) None) are.named encoded.0),
        subst (λ (ts : List Column). EncodeFor columns ts rows bytes) are.named encoded.1,
      )

      pub rows_answered : (places : List ℕ) (r : Result (List (List ℕ)) Refusal) → ArePlaces columns listed places
          → MatchResult r (λ bytes. Find (rows_checks columns (columns_at columns places) next rows) None × EncodeFor columns (columns_at columns places) rows bytes) (Refuses (rows_checks columns (columns_at columns places) next rows))
          → MatchResult r (λ bytes. Find (insert_checks listed rows t) None × EncodeFor columns (named columns listed) rows bytes) (Refuses (insert_checks listed rows t))
      rows_answered places (Ok bytes) are answer = rows_encoded places bytes are answer
      rows_answered places (Err e) are answer = rows_refused places e are answer
