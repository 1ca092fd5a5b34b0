-- The rows that an INSERT adds are rows of the table.
use Rattle.std.proofs.Common.{◌≡◌, inl, inr, ℕ, suc, ◌+◌, ◌≤◌, ◌<◌, nat_le, Bool, true, false, cond, List, [], ◌∷◌, ◌++◌, length, map, Option, Some, None, refl, sym, subst, arith}
use Rattle.std.specs.List.{AllByRecursion, filter_map, list_any}
use Rattle.std.specs.Str.{bytes_eq}
use Rattle.std.proofs.lemmas.Bool.Decides.{nat_tests}
use Rattle.std.proofs.lemmas.Slice.Eq.{bytes_eq-Decides}
use Rattle.gx_value.specs.declared.fields.Column.{Column}
use Rattle.gx_value.specs.Rows.{IsRowBytes}
use Rattle.gx_value.specs.Values.{Datum, IsField, IsRow}
use Rattle.gx_parse.specs.declared.statement.Given.{Given}
use Rattle.gx_model.specs.Checks.{Check, Passes, Find, fault_where, fits}
use Rattle.gx_model.specs.Database.{IsRowOf, Rises, AreDistinct, is_column, column_named, numbered, end_of_numbers}
use Rattle.gx_model.specs.Faults.{rows_checks, values_checks}
use Rattle.gx_model.specs.Values.{named, value_for, fields_of, ReadsValues, ReadsRow, ReadsRows}
use Rattle.gx_model.proofs.Lists.{any_parts, same_bytes}
use Rattle.gx_model.proofs.OneTurn.{Facts, one_row}
use Rattle.gx_model.proofs.Tables.{found}

-- Checks that find nothing.

pub passed : (c : Check) (cs : List Check) → Find (c ∷ cs) None → Passes c × Find cs None
passed c cs (inl h) = (h.0, h.1)
passed c cs (inr h) = absurd (none h.0 h.2)
  where
    none : (n : ℕ) → None ≡ Some n → ⊥
    none n g = cc

pub passed_behind : (front rest : List Check) → Find (front ++ rest) None → Find rest None
passed_behind [] rest h = h
passed_behind (c ∷ front) rest h = passed_behind front rest (passed c (front ++ rest) h).1

-- Columns by their names.

abbrev pub IsNamed : List Column → Column → Type 0
IsNamed columns c = column_named columns c.name ≡ Some c

others_step : (d : Column) (ds : List Column) (c : Column) → bytes_eq d.name c.name ≡ false → IsNamed ds c → IsNamed (d ∷ ds) c
others_step d ds c h k = rw h k

others_named : (d : Column) (ds cs : List Column) → list_any (bytes_eq d.name) (map (λ c. c.name) cs) ≡ false → AllByRecursion (IsNamed ds) cs → AllByRecursion (IsNamed (d ∷ ds)) cs
others_named d ds [] h k = tt
others_named d ds (c ∷ cs) h k =
    let e = any_parts (bytes_eq d.name) c.name (map (λ x. x.name) cs) h in
    (others_step d ds c e.0 k.0, others_named d ds cs e.1 k.1)

first_named : (d : Column) (ds : List Column) → IsNamed (d ∷ ds) d
first_named d ds = rw (same_bytes d.name) refl

-- each column is the one of its name
pub all_named : (columns : List Column) → AreDistinct (map (λ c. c.name) columns) → AllByRecursion (IsNamed columns) columns
all_named [] h = tt
all_named (d ∷ ds) h = (first_named d ds, others_named d ds ds h.0 (all_named ds h.1))

found_is_named : (columns : List Column) (name : List ℕ) (c : Column) → column_named columns name ≡ Some c → IsNamed columns c
found_is_named columns name c h =
    let e : c.name ≡ name = (bytes_eq-Decides c.name name).0 (found (is_column name) columns c h) in
    subst (λ (n : List ℕ). column_named columns n ≡ Some c) (sym e) h

targets_step : (columns : List Column) (name : List ℕ) (names : List (List ℕ)) (o : Option Column) → column_named columns name ≡ o
    → AllByRecursion (IsNamed columns) (filter_map (column_named columns) names) → AllByRecursion (IsNamed columns) (filter_map (column_named columns) (name ∷ names))
targets_step columns name names None h k = rw h k
targets_step columns name names (Some c) h k = rw h (found_is_named columns name c h, k)

targets_of : (columns : List Column) (names : List (List ℕ)) → AllByRecursion (IsNamed columns) (filter_map (column_named columns) names)
targets_of columns [] = tt
targets_of columns (name ∷ names) = targets_step columns name names (column_named columns name) refl (targets_of columns names)

pub targets_named : (columns : List Column) (listed : Option (List (List ℕ))) → AreDistinct (map (λ c. c.name) columns) → AllByRecursion (IsNamed columns) (named columns listed)
targets_named columns None h = all_named columns h
targets_named columns (Some names) h = targets_of columns names

-- Values.

same_column : (columns : List Column) (x c : Column) → IsNamed columns x → IsNamed columns c → x.name ≡ c.name → x ≡ c
same_column columns x c h k e =
    let g : column_named columns c.name ≡ Some x = subst (λ (n : List ℕ). column_named columns n ≡ Some x) e h in cc

typed_step : (columns : List Column) (x c : Column) (v rest : Option Datum) (b : Bool) → bytes_eq x.name c.name ≡ b → IsNamed columns x → IsNamed columns c → IsField x.kind v → IsField c.kind rest
    → IsField c.kind (cond b v rest)
typed_step columns x c v rest true h m n f g =
    subst (λ (d : Column). IsField d.kind v) (same_column columns x c m n ((bytes_eq-Decides x.name c.name).0 h)) f
typed_step columns x c v rest false h m n f g = g

none_for : (c : Column) (targets : List Column) → IsField c.kind (value_for c.name targets [])
none_for c [] = tt
none_for c (x ∷ xs) = tt

typed : (columns targets : List Column) (row : List Given) (values : List (Option Datum)) (c : Column) → ReadsValues targets row values → AllByRecursion (IsNamed columns) targets → IsNamed columns c
    → IsField c.kind (value_for c.name targets values)
typed columns targets [] values c r t n = subst (λ (vs : List (Option Datum)). IsField c.kind (value_for c.name targets vs)) (sym r) (none_for c targets)
typed columns [] (g ∷ gs) values c r t n = absurd r
typed columns (x ∷ xs) (g ∷ gs) [] c r t n = absurd r
typed columns (x ∷ xs) (g ∷ gs) (v ∷ vs) c r t n =
    typed_step columns x c v (value_for c.name xs vs) (bytes_eq x.name c.name) refl t.0 n r.0.valid (typed columns xs gs vs c r.1 t.1 n)

all_typed : (columns cs targets : List Column) (row : List Given) (values : List (Option Datum)) → ReadsValues targets row values → AllByRecursion (IsNamed columns) targets → AllByRecursion (IsNamed columns) cs
    → IsRow (map (λ c. c.kind) cs) (fields_of cs targets values)
all_typed columns [] targets row values r t n = tt
all_typed columns (c ∷ cs) targets row values r t n = (typed columns targets row values c r t n.0, all_typed columns cs targets row values r t n.1)

pub is_row : (columns targets : List Column) (row : List Given) (fields : List (Option Datum)) → ReadsRow columns targets row fields → AllByRecursion (IsNamed columns) targets → AllByRecursion (IsNamed columns) columns
    → IsRow (map (λ c. c.kind) columns) fields
is_row columns targets row fields r t n =
    subst (λ (fs : List (Option Datum)). IsRow (map (λ c. c.kind) columns) fs) (sym r.2) (all_typed columns columns targets row r.0 r.1 t n)

-- Rows.

fit : Facts → (columns targets : List Column) (row : List Given) (fields : List (Option Datum)) (number : ℕ) → ReadsRow columns targets row fields → Passes (fits columns targets row)
    → AllByRecursion (IsNamed columns) targets → AllByRecursion (IsNamed columns) columns → IsRowOf columns (record { number = number; fields = fields })
fit facts columns targets row fields number r p t n =
    let e = one_row facts columns targets row p.0 fields p.2 r in
    record { fields = is_row columns targets row fields r t n; bytes = p.1; encoded = subst (λ (fs : List (Option Datum)). IsRowBytes p.1 fs) e p.3; short = p.4 }

below_end : (n : ℕ) → nat_le end_of_numbers n ≡ false → n < end_of_numbers
below_end n h = grind (arith, nat_tests)

pub record AreNew (columns : List Column) (number : ℕ) (added : List (List (Option Datum))) : Type 0 where
  pub rows : AllByRecursion (IsRowOf columns) (numbered number added)
  pub rise : Rises number (number + length added) (numbered number added)
  pub below : number + length added ≤ end_of_numbers

next_rises : (columns : List Column) (number : ℕ) (fields : List (Option Datum)) (added : List (List (Option Datum))) → IsRowOf columns (record { number = number; fields = fields })
    → AreNew columns (suc number) added → AreNew columns number (fields ∷ added)
next_rises columns number fields added h k =
    let e : suc number + length added ≡ number + length (fields ∷ added) = omega arith in
    let below : number + length (fields ∷ added) ≤ end_of_numbers = subst (λ (n : ℕ). n ≤ end_of_numbers) e k.below in
    let low : number ≤ number = omega arith in
    record {
      rows = (h, k.rows);
      rise = (low, subst (λ (n : ℕ). Rises (suc number) n (numbered (suc number) added)) e k.rise);
      below = below;
    }

pub are_new : Facts → (columns targets : List Column) (number : ℕ) (rows : List (List Given)) (added : List (List (Option Datum))) → number ≤ end_of_numbers
    → Find (rows_checks columns targets number rows) None → ReadsRows columns targets rows added → AllByRecursion (IsNamed columns) targets → AllByRecursion (IsNamed columns) columns
    → AreNew columns number added
are_new facts columns targets number [] added b f r t n = none (sym r)
  where
    none : [] ≡ added → AreNew columns number added
    none e = subst (λ (xs : List (List (Option Datum))). AreNew columns number xs) e (record { rows = tt; rise = omega arith; below = omega arith })
are_new facts columns targets number (row ∷ rows) [] b f r t n = absurd r
are_new facts columns targets number (row ∷ rows) (fields ∷ added) b f r t n =
    let k = passed_behind (values_checks targets row) (fits columns targets row ∷ fault_where 21 (nat_le end_of_numbers number) ∷ rows_checks columns targets (suc number) rows) f in
    let m = passed (fits columns targets row) (fault_where 21 (nat_le end_of_numbers number) ∷ rows_checks columns targets (suc number) rows) k in
    let l = passed (fault_where 21 (nat_le end_of_numbers number)) (rows_checks columns targets (suc number) rows) m.1 in
    let less : number < end_of_numbers = below_end number l.0 in
    next_rises columns number fields added (fit facts columns targets row fields number r.0 m.0 t n)
    (are_new facts columns targets (suc number) rows added (omega arith) l.1 r.1 t n)
