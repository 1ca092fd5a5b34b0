-- No plan loses a row: each of which the condition is true is found.
use Rattle.std.specs.Prelude.{◌≡◌, true, List, Option}
use Rattle.std.specs.List.{AllByRecursion}
use Rattle.std.specs.Str.{bytes_eq}
use Rattle.gx_value.specs.Values.{Datum, IsRow}
use Rattle.gx_model.specs.Database.{Index, Table, IsIndexOn}
use Rattle.gx_model.specs.Plans.{is_found}
use Rattle.gx_model.specs.Truth.{is_true, truth}
use Rattle.gx_plan.specs.Bounds.{bound_of, kinds_of, IsBound}
use Rattle.gx_plan.specs.declared.bound.Bound.{Bound}

-- those on the table are on its columns, by classes that take them
abbrev pub AreOn : Table → List Index → Type 0
AreOn t indexes = AllByRecursion (λ i. bytes_eq i.table t.name ≡ true → IsIndexOn i t) indexes

abbrev pub LosesNone : Type 0
LosesNone =
    (indexes : List Index) (t : Table) (condition : Bound) → AreOn t indexes → IsBound (kinds_of t.columns) (bound_of condition)
    → (fields : List (Option Datum)) → IsRow (kinds_of t.columns) fields → is_true (truth (bound_of condition) fields) ≡ true → is_found indexes t.name (bound_of condition) fields ≡ true
