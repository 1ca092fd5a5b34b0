-- Columns with different names, and the values for them.
use Rattle.std.proofs.Common.{◌≡◌, ◌≢◌, ◌==◌, inl, inr, ℕ, zero, suc, ◌<◌, ◌≤◌, Bool, true, false, cond, get_or, List, [], ◌∷◌, length, map, Option, Some, None, slice_get, refl, sym, ap, ◌∙◌, subst, arith}
use Rattle.std.proofs.lemmas.Bool.{cases_lt}
use Rattle.std.proofs.lemmas.Bool.Decides.{Decides-eqb}
use Rattle.std.proofs.lemmas.Option.{slice_get-get_or}
use Rattle.std.proofs.lemmas.Slice.Eq.{bytes_eq-Decides}
use Rattle.std.specs.List.{cons_option, list_any}
use Rattle.std.specs.Str.{bytes_eq}
use Rattle.gx_parse.specs.declared.statement.Given.{Given}
use Rattle.gx_value.specs.declared.fields.Column.{Column}
use Rattle.gx_value.specs.declared.types.ColumnType.{ColumnType}
use Rattle.gx_value.specs.Values.{Datum, IsField, IsRow}
use Rattle.gx_model.specs.Database.{AreDistinct}
use Rattle.gx_model.specs.Values.{value_for, ReadsValues, fields_of}
use Rattle.gx_target.specs.Places.{columns_at, value_at, HasPlaces}
use Rattle.gx_target.proofs.Lists.{or_false, there_is}

abbrev pub names_of : List Column → List (List ℕ)
names_of columns = map (λ (c : Column). c.name) columns

abbrev pub kinds_of : List Column → List ColumnType
kinds_of columns = map (λ (c : Column). c.kind) columns

-- ---- names that differ

same_bytes : (a : List ℕ) → bytes_eq a a ≡ true
same_bytes a = (bytes_eq-Decides a a).1 refl

other_way_at : (a b : List ℕ) (r : Bool) → bytes_eq b a ≡ r → bytes_eq a b ≡ false → r ≡ false
other_way_at a b true is other =
    let same : b ≡ a = (bytes_eq-Decides b a).0 is in
    let holds : bytes_eq a b ≡ true = (bytes_eq-Decides a b).1 (sym same) in
    cc
other_way_at a b false is other = refl

other_way : (a b : List ℕ) → bytes_eq a b ≡ false → bytes_eq b a ≡ false
other_way a b other = other_way_at a b (bytes_eq b a) refl other

-- a name that none of these has
not_among : (name : List ℕ) (columns : List Column) (i : ℕ) (c : Column) → list_any (bytes_eq name) (names_of columns) ≡ false → slice_get columns i ≡ Some c → bytes_eq name c.name ≡ false
not_among name [] i c none at = cc
not_among name (x ∷ xs) zero c none at =
    let same : x ≡ c = cc in
    ap (λ (y : Column). bytes_eq name y.name) (sym same) ∙ (or_false (bytes_eq name x.name) (list_any (bytes_eq name) (names_of xs)) none).0
not_among name (x ∷ xs) (suc i) c none at = not_among name xs i c (or_false (bytes_eq name x.name) (list_any (bytes_eq name) (names_of xs)) none).1 at

differ : (columns : List Column) (p q : ℕ) (a b : Column) → AreDistinct (names_of columns) → slice_get columns p ≡ Some a → slice_get columns q ≡ Some b → p < q → bytes_eq a.name b.name ≡ false
differ [] p q a b distinct at_p at_q less = cc
differ (x ∷ xs) p zero a b distinct at_p at_q less = absurd (omega arith)
differ (x ∷ xs) zero (suc q) a b distinct at_p at_q less =
    let same : x ≡ a = cc in
    ap (λ (y : Column). bytes_eq y.name b.name) (sym same) ∙ not_among x.name xs q b distinct.0 at_q
differ (x ∷ xs) (suc p) (suc q) a b distinct at_p at_q less = differ xs p q a b distinct.1 at_p at_q (omega arith)

same_column : (columns : List Column) (p q : ℕ) (a b : Column) → slice_get columns p ≡ Some a → slice_get columns q ≡ Some b → (p == q) ≡ true → a ≡ b
same_column columns p q a b at_p at_q same =
    let one : slice_get columns p ≡ slice_get columns q = ap (slice_get columns) ((Decides-eqb p q).0 same) in
    cc

-- columns have one name only where they stand at one place
same_name_at : (columns : List Column) (p q : ℕ) (a b : Column) (r : Bool) → (p == q) ≡ r → AreDistinct (names_of columns) → slice_get columns p ≡ Some a → slice_get columns q ≡ Some b → bytes_eq a.name b.name ≡ r
same_name_at columns p q a b true is distinct at_p at_q =
    ap (λ (y : Column). bytes_eq y.name b.name) (same_column columns p q a b at_p at_q is) ∙ same_bytes b.name
same_name_at columns p q a b false is distinct at_p at_q =
    let apart : p ≢ q = λ same. let holds : (p == q) ≡ true = (Decides-eqb p q).1 same in cc in
    elim (cases_lt p q) as (λ _. bytes_eq a.name b.name ≡ false) [
      | inl less ↦ differ columns p q a b distinct at_p at_q less
      | inr more ↦ other_way b.name a.name (differ columns q p b a distinct at_q at_p (omega arith))
    ]

same_name : (columns : List Column) (p q : ℕ) (a b : Column) → AreDistinct (names_of columns) → slice_get columns p ≡ Some a → slice_get columns q ≡ Some b → bytes_eq a.name b.name ≡ (p == q)
same_name columns p q a b distinct at_p at_q = same_name_at columns p q a b (p == q) refl distinct at_p at_q

-- ---- columns at places

pub columns_at_is : (d : Column) (columns : List Column) (places : List ℕ) → HasPlaces columns places → columns_at columns places ≡ map (λ (p : ℕ). get_or columns p d) places
columns_at_is d columns [] there = refl
columns_at_is d columns (p ∷ ps) there =
    ap (λ (o : Option Column). cons_option o (columns_at columns ps)) (slice_get-get_or columns p d there.0)
    ∙ ap (λ (l : List Column). get_or columns p d ∷ l) (columns_at_is d columns ps there.1)

pub length_columns_at : (columns : List Column) (places : List ℕ) → HasPlaces columns places → length (columns_at columns places) ≡ length places
length_columns_at columns [] there = refl
length_columns_at columns (p ∷ ps) there =
    ap (λ (o : Option Column). length (cons_option o (columns_at columns ps))) (there_is columns p there.0).1 ∙ ap suc (length_columns_at columns ps there.1)

-- ---- values for columns

-- the value for a column's name among the columns at places is the one for its place
pub value_there : (columns : List Column) (places : List ℕ) (values : List (Option Datum)) (j : ℕ) (c : Column) → AreDistinct (names_of columns) → HasPlaces columns places → slice_get columns j ≡ Some c
    → value_for c.name (columns_at columns places) values ≡ value_at j places values
value_there columns [] values j c distinct there at = refl
value_there columns (p ∷ ps) [] j c distinct there at =
    ap (λ (o : Option Column). value_for c.name (cons_option o (columns_at columns ps)) []) (there_is columns p there.0).1
value_there columns (p ∷ ps) (v ∷ vs) j c distinct there at =
    let first = there_is columns p there.0 in
    ap (λ (o : Option Column). value_for c.name (cons_option o (columns_at columns ps)) (v ∷ vs)) first.1
    ∙ ap (λ (b : Bool). cond b v (value_for c.name (columns_at columns ps) vs)) (same_name columns p j first.0 c distinct first.1 at)
    ∙ ap (λ (o : Option Datum). cond (p == j) v o) (value_there columns ps vs j c distinct there.1 at)

valid_either : (columns : List Column) (p j : ℕ) (first c : Column) (v rest : Option Datum) (r : Bool) → (p == j) ≡ r → slice_get columns p ≡ Some first → slice_get columns j ≡ Some c
    → IsField first.kind v → IsField c.kind rest → IsField c.kind (cond r v rest)
valid_either columns p j first c v rest true is at_p at_j here there =
    let P : Column → Type 0 = λ y. IsField y.kind v in
    subst P (same_column columns p j first c at_p at_j is) here
valid_either columns p j first c v rest false is at_p at_j here there = there

valid_at : (columns : List Column) (places : List ℕ) (row : List Given) (values : List (Option Datum)) (j : ℕ) (c : Column) → HasPlaces columns places → slice_get columns j ≡ Some c
    → ReadsValues (columns_at columns places) row values → IsField c.kind (value_at j places values)
valid_at columns [] row values j c there at reads = tt
valid_at columns (p ∷ ps) row [] j c there at reads = tt
valid_at columns (p ∷ ps) [] (v ∷ vs) j c there at reads =
    let P : Option Column → Type 0 = λ o. ReadsValues (cons_option o (columns_at columns ps)) [] (v ∷ vs) in
    let none : v ∷ vs ≡ [] = subst P (there_is columns p there.0).1 reads in
    absurd cc
valid_at columns (p ∷ ps) (g ∷ gs) (v ∷ vs) j c there at reads =
    let first = there_is columns p there.0 in
    let P : Option Column → Type 0 = λ o. ReadsValues (cons_option o (columns_at columns ps)) (g ∷ gs) (v ∷ vs) in
    let parts = subst P first.1 reads in
    valid_either columns p j first.0 c v (value_at j ps vs) (p == j) refl first.1 at parts.0.valid (valid_at columns ps gs vs j c there.1 at parts.1)

valid_each : (f : Column → Option Datum) (cs : List Column) → ((i : ℕ) (c : Column) → slice_get cs i ≡ Some c → IsField c.kind (f c)) → IsRow (kinds_of cs) (map f cs)
valid_each f [] each = tt
valid_each f (x ∷ xs) each = (each 0 x refl, valid_each f xs (λ i c at. each (suc i) c at))

-- the fields that are made of values that were read are valid
pub fields_valid : (columns : List Column) (places : List ℕ) (row : List Given) (values : List (Option Datum)) → AreDistinct (names_of columns) → HasPlaces columns places
    → ReadsValues (columns_at columns places) row values → IsRow (kinds_of columns) (fields_of columns (columns_at columns places) values)
fields_valid columns places row values distinct there reads =
    valid_each (λ (c : Column). value_for c.name (columns_at columns places) values) columns (λ i c at.
    let P : Option Datum → Type 0 = λ v. IsField c.kind v in
    subst P (sym (value_there columns places values i c distinct there at)) (valid_at columns places row values i c there at reads))

-- the value for a column's own name
pub value_own : (columns : List Column) (row : List (Option Datum)) (p : ℕ) (c : Column) (v : Option Datum) → AreDistinct (names_of columns) → slice_get columns p ≡ Some c → slice_get row p ≡ Some v → value_for c.name columns row ≡ v
value_own [] row p c v distinct at is = cc
value_own (x ∷ xs) [] p c v distinct at is = cc
value_own (x ∷ xs) (r ∷ rs) zero c v distinct at is =
    let same : x ≡ c = cc in
    let value : r ≡ v = cc in
    ap (λ (b : Bool). cond b r (value_for c.name xs rs)) (ap (λ (y : Column). bytes_eq y.name c.name) same ∙ same_bytes c.name) ∙ value
value_own (x ∷ xs) (r ∷ rs) (suc p) c v distinct at is =
    ap (λ (b : Bool). cond b r (value_for c.name xs rs)) (not_among x.name xs p c distinct.0 at) ∙ value_own xs rs p c v distinct.1 at is
