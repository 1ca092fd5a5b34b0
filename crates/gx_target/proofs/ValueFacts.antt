-- The values of a row, one after another, and the fields that they make.
use Rattle.std.proofs.Common.{◌≡◌, ◌≢◌, ◌==◌, ne_eqb, inl, inr, ℕ, zero, suc, ◌<◌, ◌≤◌, ◌+◌, Bool, true, false, not, cond, get_or, List, [], ◌∷◌, ◌++◌, length, map, set, drop, append_assoc, append-nil, Option, Some, None, option_map, slice_get, position, refl, sym, ap, ◌∙◌, subst, arith}
use Rattle.std.proofs.lemmas.List.{drop_all, drop-map, get_or-map, get_or_past, length-map, map-set}
use Rattle.std.proofs.lemmas.Bool.Decides.{Decides-eqb}
use Rattle.std.proofs.lemmas.List.Quantifiers.{position-Some}
use Rattle.std.proofs.lemmas.Option.{get_or_from_slice_get}
use Rattle.std.specs.List.{prefix_len}
use Rattle.gx_bytes.specs.declared.error.ValueError.{ValueError}
use Rattle.gx_parse.specs.declared.statement.Given.{Given}
use Rattle.gx_value.specs.declared.fields.Column.{Column}
use Rattle.gx_value.specs.declared.literal.Literal.{Literal}
use Rattle.gx_value.specs.declared.types.ColumnType.{ColumnType}
use Rattle.gx_value.specs.Literals.{Reads, RefusesLiteral}
use Rattle.gx_value.specs.declared.value.Value.{Value}
use Rattle.gx_value.specs.Values.{Datum, datum_of, row_of, IsField, IsRow}
use Rattle.gx_model.specs.Checks.{Check, Find, is_value, fault_of}
use Rattle.gx_model.specs.Database.{AreDistinct}
use Rattle.gx_model.specs.Faults.{value_checks, values_checks}
use Rattle.gx_model.specs.Refusals.{Refuses}
use Rattle.gx_model.specs.Values.{IsRead, ReadsValues, value_for, fields_of}
use Rattle.gx_model.specs.declared.refusal.Refusal.{Refusal}
use Rattle.gx_model.specs.declared.refusal.Refusal.TheVariants.{Fault, Memory}
use Rattle.gx_model.proofs.Finding.{find_behind, find_front, refuse_behind, refuse_front}
use Rattle.gx_target.specs.Encoded.{cast_checks, IsReadRow}
use Rattle.gx_target.specs.Places.{columns_at, value_at, HasPlaces}
use Rattle.gx_target.proofs.Lists.{drop_next, there_is, none_above}
use Rattle.gx_target.proofs.TargetFacts.{names_of, kinds_of, columns_at_is, fields_valid, value_there}

-- ---- one value

pub refused_with : (kind : ColumnType) (literal : Literal) (e : ValueError) (n : ℕ) → RefusesLiteral kind literal e → fault_of e ≡ Some n → Find (is_value kind literal ∷ []) (Some n)
refused_with kind literal e n refuses fault = inr (n, (e, refuses, fault), refl)

pub given_read : (c : Column) (g : Given) (v : Option Datum) → Find (cast_checks c.kind g.cast) None → Reads c.kind g.literal v → IsField c.kind v → Find (value_checks c g) None × IsRead c g v
given_read c g v cast reads valid =
    (find_behind (cast_checks c.kind g.cast) (is_value c.kind g.literal ∷ []) None cast (inl ((v, reads), refl)), record { read = reads; valid = valid })

pub given_cast : (c : Column) (g : Given) (r : Refusal) → Refuses (cast_checks c.kind g.cast) r → Refuses (value_checks c g) r
given_cast c g r refuses = refuse_front (cast_checks c.kind g.cast) (is_value c.kind g.literal ∷ []) r refuses

pub given_refused : (c : Column) (g : Given) (r : Refusal) → Find (cast_checks c.kind g.cast) None → Refuses (is_value c.kind g.literal ∷ []) r → Refuses (value_checks c g) r
given_refused c g r cast refuses = refuse_behind (cast_checks c.kind g.cast) (is_value c.kind g.literal ∷ []) r cast refuses

-- ---- value by value

-- What the checks of the values that are left find is what all find, and these values are read in front of those.
pub record Reading (targets : List Column) (row : List Given) (values : List (Option Datum)) (cs : List Column) (gs : List Given) : Type 0 where
  pub finds : (found : Option ℕ) → Find (values_checks cs gs) found → Find (values_checks targets row) found
  pub reads : (more : List (Option Datum)) → ReadsValues cs gs more → ReadsValues targets row (values ++ more)

pub reading_none : (targets : List Column) (row : List Given) → Reading targets row [] targets row
reading_none targets row = record { finds = λ found f. f; reads = λ more r. r }

step_refused : (targets : List Column) (row : List Given) (values : List (Option Datum)) (c : Column) (g : Given) (cs : List Column) (gs : List Given) (r : Refusal)
    → Reading targets row values (c ∷ cs) (g ∷ gs) → Refuses (value_checks c g) r → Refuses (values_checks targets row) r
step_refused targets row values c g cs gs (Fault n) h refuses = h.finds (Some n) (find_front (value_checks c g) (values_checks cs gs) n refuses)
step_refused targets row values c g cs gs Memory h refuses = tt

step_read : (targets : List Column) (row : List Given) (values longer : List (Option Datum)) (c : Column) (g : Given) (cs : List Column) (gs : List Given) (v : Option Datum)
    → Reading targets row values (c ∷ cs) (g ∷ gs) → Find (value_checks c g) None → IsRead c g v → longer ≡ values ++ v ∷ [] → Reading targets row longer cs gs
step_read targets row values longer c g cs gs v h passes read grown =
    record {
      finds = λ found f. h.finds found (find_behind (value_checks c g) (values_checks cs gs) found passes f);
      reads = λ more r. subst (ReadsValues targets row) (sym (ap (λ (l : List (Option Datum)). l ++ more) grown ∙ append_assoc values (v ∷ []) more)) (h.reads (v ∷ more) (read, r));
    }

no_checks : (cs : List Column) → values_checks cs [] ≡ []
no_checks [] = refl
no_checks (c ∷ cs) = refl

none_read : (cs : List Column) → ReadsValues cs [] []
none_read [] = refl
none_read (c ∷ cs) = refl

whole_read : (targets : List Column) (row : List Given) (values : List (Option Datum)) (cs : List Column) → Reading targets row values cs [] → Find (values_checks targets row) None × ReadsValues targets row values
whole_read targets row values cs h = (
  h.finds None (subst (λ (l : List Check). Find l None) (sym (no_checks cs)) refl),
  subst (ReadsValues targets row) (append-nil values) (h.reads [] (none_read cs)),
)

-- ---- at the places of columns

pub target_next : (columns : List Column) (places : List ℕ) (i p : ℕ) (c : Column) → HasPlaces columns places → i < length places → p ≡ get_or places i 0 → slice_get columns p ≡ Some c
    → drop i (columns_at columns places) ≡ c ∷ drop (i + 1) (columns_at columns places)
target_next columns places i p c there below is at =
    let f : ℕ → Column = λ q. get_or columns q c in
    let are : columns_at columns places ≡ map f places = columns_at_is c columns places there in
    ap (drop i) are ∙ drop-map f i places ∙ ap (map f) (drop_next places i p 0 below is)
    ∙ ap (λ (y : Column). y ∷ map f (drop (i + 1) places)) (get_or_from_slice_get columns p c c at)
    ∙ ap (λ (l : List Column). c ∷ l) (sym (drop-map f (i + 1) places) ∙ sym (ap (drop (i + 1)) are))

-- as far as the first i values
abbrev pub ReadTo : List Column → List ℕ → List Given → ℕ → List (Option Datum) → Type 0
ReadTo columns places row i values = Reading (columns_at columns places) row values (drop i (columns_at columns places)) (drop i row)

module _ (columns : List Column) (places : List ℕ) (row : List Given) (i p : ℕ) (c : Column) (g d : Given) (values : List (Option Datum)) (there : HasPlaces columns places)
    (below : i < length places) (is : p ≡ get_or places i 0) (at : slice_get columns p ≡ Some c) (inside : i < length row) (given : g ≡ get_or row i d) (h : ReadTo columns places row i values)
  where
    next_reading : Reading (columns_at columns places) row values (c ∷ drop (i + 1) (columns_at columns places)) (g ∷ drop (i + 1) row)
    next_reading =
        let P : List Column → List Given → Type 0 = λ cs gs. Reading (columns_at columns places) row values cs gs in
        subst (P (c ∷ drop (i + 1) (columns_at columns places))) (drop_next row i g d inside given)
        (subst (λ (cs : List Column). P cs (drop i row)) (target_next columns places i p c there below is at) h)

    pub value_refused : (r : Refusal) → Refuses (value_checks c g) r → Refuses (values_checks (columns_at columns places) row) r
    value_refused r refuses = step_refused (columns_at columns places) row values c g (drop (i + 1) (columns_at columns places)) (drop (i + 1) row) r next_reading refuses

    pub value_more : (v : Option Datum) (longer : List (Option Datum)) → Find (value_checks c g) None × IsRead c g v → longer ≡ values ++ v ∷ [] → ReadTo columns places row (i + 1) longer
    value_more v longer read grown =
        step_read (columns_at columns places) row values longer c g (drop (i + 1) (columns_at columns places)) (drop (i + 1) row) v next_reading read.0 read.1 grown

pub values_read : (columns : List Column) (places : List ℕ) (row : List Given) (i : ℕ) (values : List (Option Datum)) → length row ≤ i → ReadTo columns places row i values
    → Find (values_checks (columns_at columns places) row) None × ReadsValues (columns_at columns places) row values
values_read columns places row i values above h =
    let targets = columns_at columns places in
    whole_read targets row values (drop i targets) (subst (λ (gs : List Given). Reading targets row values (drop i targets) gs) (drop_all i row above) h)

-- ---- fields in the order of columns

-- What is left of the values is there for the places from j on, and the fields of those columns are missing.
pub record Filling (columns : List Column) (places : List ℕ) (values left fields : List (Option Datum)) (j : ℕ) : Type 0 where
  pub left_is : (k : ℕ) → j ≤ k → value_at k places left ≡ value_at k places values
  pub fields_are : fields ++ fields_of (drop j columns) (columns_at columns places) values ≡ fields_of columns (columns_at columns places) values

pub filling_none : (columns : List Column) (places : List ℕ) (values : List (Option Datum)) → Filling columns places values values [] 0
filling_none columns places values = record { left_is = λ k above. refl; fields_are = refl }

pub filling_more : (columns : List Column) (places : List ℕ) (values left after fields longer : List (Option Datum)) (j : ℕ) (field : Option Datum) → AreDistinct (names_of columns) → HasPlaces columns places → j < length columns
    → Filling columns places values left fields j → field ≡ value_at j places left → ((k : ℕ) → k ≢ j → value_at k places after ≡ value_at k places left) → longer ≡ fields ++ field ∷ []
    → Filling columns places values after longer (j + 1)
filling_more columns places values left after fields longer j field distinct there below h is others grown =
    let targets = columns_at columns places in
    let at = there_is columns j below in
    let c = at.0 in
    let rest = drop (j + 1) columns in
    let next : drop j columns ≡ c ∷ rest = drop_next columns j c c below (sym (get_or_from_slice_get columns j c c at.1)) in
    let own : j ≤ j = omega arith in
    let value : field ≡ value_for c.name targets values = is ∙ h.left_is j own ∙ sym (value_there columns places values j c distinct there at.1) in
    record {
      left_is = λ k above.
          let apart : k ≢ j = λ same. omega arith in
          let low : j ≤ k = omega arith in
          others k apart ∙ h.left_is k low;
      fields_are =
          ap (λ (l : List (Option Datum)). l ++ fields_of rest targets values) grown
          ∙ append_assoc fields (field ∷ []) (fields_of rest targets values)
          ∙ ap (λ (v : Option Datum). fields ++ (v ∷ fields_of rest targets values)) value
          ∙ ap (λ (cs : List Column). fields ++ fields_of cs targets values) (sym next)
          ∙ h.fields_are;
    }

pub all_filled : (columns : List Column) (places : List ℕ) (values left fields : List (Option Datum)) (j : ℕ) → length columns ≤ j → Filling columns places values left fields j
    → fields ≡ fields_of columns (columns_at columns places) values
all_filled columns places values left fields j above h =
    let targets = columns_at columns places in
    sym (append-nil fields) ∙ ap (λ (cs : List Column). fields ++ fields_of cs targets values) (sym (drop_all j columns above)) ∙ h.fields_are

-- ---- a value by its place

first_value : (place : ℕ) (places : List ℕ) (values : List (Option Datum)) (i : ℕ) → i < length places → (get_or places i 0 == place) ≡ true → ((k : ℕ) → k < i → (get_or places k 0 == place) ≡ false)
    → value_at place places values ≡ get_or values i None
first_value place [] values i below passes none = absurd (omega arith)
first_value place (p ∷ ps) [] i below passes none = refl
first_value place (p ∷ ps) (v ∷ vs) zero below passes none = ap (λ (b : Bool). cond b v (value_at place ps vs)) passes
first_value place (p ∷ ps) (v ∷ vs) (suc i) below passes none =
    ap (λ (b : Bool). cond b v (value_at place ps vs)) (none 0 (omega arith))
    ∙ first_value place ps vs i (omega arith) passes (λ k less. none (suc k) (omega arith))

pub value_found : (place : ℕ) (places : List ℕ) (values : List (Option Datum)) (i : ℕ) → position (λ p. p == place) places ≡ Some i → value_at place places values ≡ get_or values i None
value_found place places values i found =
    let parts = position-Some (λ (p : ℕ). p == place) places i 0 found in
    first_value place places values i parts.0 parts.1 parts.2

pub value_changed : (other : ℕ) (places : List ℕ) (values : List (Option Datum)) (i : ℕ) (v : Option Datum) → (get_or places i 0 == other) ≡ false → i < length places → value_at other places (set values i v) ≡ value_at other places values
value_changed other [] values i v apart below = refl
value_changed other (p ∷ ps) [] i v apart below = refl
value_changed other (p ∷ ps) (w ∷ ws) zero v apart below =
    ap (λ (b : Bool). cond b v (value_at other ps ws)) apart ∙ sym (ap (λ (b : Bool). cond b w (value_at other ps ws)) apart)
value_changed other (p ∷ ps) (w ∷ ws) (suc i) v apart below = ap (λ (o : Option Datum). cond (p == other) w o) (value_changed other ps ws i v apart (omega arith))

nowhere_step : (place p : ℕ) (ps : List ℕ) (v : Option Datum) (vs : List (Option Datum)) (r : Bool) → (length ps ≤ prefix_len (λ q. not (q == place)) ps → value_at place ps vs ≡ None)
    → suc (length ps) ≤ cond (not r) (1 + prefix_len (λ q. not (q == place)) ps) 0 → cond r v (value_at place ps vs) ≡ None
nowhere_step place p ps v vs true rest above = absurd (omega arith)
nowhere_step place p ps v vs false rest above = rest (omega arith)

nowhere : (place : ℕ) (places : List ℕ) (values : List (Option Datum)) → length places ≤ prefix_len (λ q. not (q == place)) places → value_at place places values ≡ None
nowhere place [] values above = refl
nowhere place (p ∷ ps) [] above = refl
nowhere place (p ∷ ps) (v ∷ vs) above = nowhere_step place p ps v vs (p == place) (nowhere place ps vs) above

pub no_value : (place : ℕ) (places : List ℕ) (values : List (Option Datum)) → position (λ p. p == place) places ≡ None → value_at place places values ≡ None
no_value place places values none = nowhere place places values (none_above (λ (p : ℕ). p == place) places none)

-- ---- the values of the code

module _ (place : ℕ) (places : List ℕ) (values : List (Option Value)) (i : ℕ) (found : position (λ p. p == place) places ≡ Some i) where
  pub value_taken : (item : Option Value) → i < length values → item ≡ get_or values i item → option_map datum_of item ≡ value_at place places (row_of values)
  value_taken item below is =
      ap (option_map datum_of) is ∙ sym (get_or-map (option_map datum_of) values i item None below) ∙ sym (value_found place places (row_of values) i found)

  pub others_stay : (item : Option Value) (other : ℕ) → other ≢ place → value_at other places (row_of (set values i item)) ≡ value_at other places (row_of values)
  others_stay item other apart =
      let parts = position-Some (λ (p : ℕ). p == place) places i 0 found in
      let here : get_or places i 0 ≡ place = (Decides-eqb (get_or places i 0) place).0 parts.1 in
      let differs : get_or places i 0 ≢ other = λ same. apart (sym same ∙ here) in
      ap (value_at other places) (map-set (option_map datum_of) values i item) ∙ value_changed other places (row_of values) i (option_map datum_of item) (ne_eqb (get_or places i 0) other differs) parts.0

  pub value_beyond : length values ≤ i → None ≡ value_at place places (row_of values)
  value_beyond above =
      let count : length (row_of values) ≡ length values = length-map values (option_map datum_of) in
      let past : length (row_of values) ≤ i = omega arith in
      sym (value_found place places (row_of values) i found ∙ get_or_past (row_of values) i None past)

pub row_read : (columns : List Column) (places : List ℕ) (row : List Given) (values fields : List (Option Datum)) → AreDistinct (names_of columns) → HasPlaces columns places
    → Find (values_checks (columns_at columns places) row) None × ReadsValues (columns_at columns places) row values → fields ≡ fields_of columns (columns_at columns places) values
    → Find (values_checks (columns_at columns places) row) None × IsReadRow columns (columns_at columns places) row fields
row_read columns places row values fields distinct there read is = (
  read.0,
  record { read = (values, read.1, is); valid = subst (IsRow (kinds_of columns)) (sym is) (fields_valid columns places row values distinct there read.1) },
)
