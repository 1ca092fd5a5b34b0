-- Plans without their boxes, each index in place of its number.
use Rattle.std.specs.Prelude.{◌≡◌, ℕ, ◌<◌, Bool, true, false, List, length, Option, None, Some}
use Rattle.std.specs.List.{slice_get}
use Rattle.gx_catalog.specs.Catalogs.{Directory}
use Rattle.gx_catalog.specs.Validity.{table_numbered}
use Rattle.gx_catalog.specs.declared.info.TableInfo.{TableInfo}
use Rattle.gx_model.specs.Database.{Index}
use Rattle.gx_model.specs.Plans as model
use Rattle.gx_model.specs.Truth.{Bound}
use Rattle.gx_plan.specs.Indexes.{indexes_of}
use Rattle.gx_plan.specs.declared.plan.Plan.{Plan}
use Rattle.gx_plan.specs.declared.plan.Plan.TheVariants as plan

-- the plan over these indexes, each number being the place of one
abbrev pub plan_of : List Index → Plan → model.Plan
plan_of indexes plan.Table = model.Whole
plan_of indexes (plan.One place) = model.by_index (slice_get indexes place)
plan_of indexes (plan.And' p a q b) = model.Both (plan_of indexes a) (plan_of indexes b)
plan_of indexes (plan.Or' p a q b) = model.Either (plan_of indexes a) (plan_of indexes b)

-- each number is the place of one of so many indexes
abbrev pub IsWithin : ℕ → Plan → Type 0
IsWithin count plan.Table = Unit {0}
IsWithin count (plan.One place) = place < count
IsWithin count (plan.And' p a q b) = IsWithin count a × IsWithin count b
IsWithin count (plan.Or' p a q b) = IsWithin count a × IsWithin count b

-- the indexes of a catalog
abbrev pub indexes_in : Directory → List Index
indexes_in catalog = indexes_of catalog.tables catalog.indexes

-- the plan of a condition on this table; no index is on a table that isn't there
abbrev pub plan_on : List Index → Option TableInfo → Bound → model.Plan
plan_on indexes None condition = model.Whole
plan_on indexes (Some t) condition = model.plan indexes t.name condition

-- The plan is that of the condition on the table with this number.
pub record IsChosen (catalog : Directory) (table : ℕ) (condition : Bound) (chosen : Plan) : Type 0 where
  pub is : plan_of (indexes_in catalog) chosen ≡ plan_on (indexes_in catalog) (table_numbered table catalog.tables) condition
  pub within : IsWithin (length catalog.indexes) chosen

-- Parts of the choice.

abbrev pub is_table : Plan → Bool
is_table plan.Table = true
is_table _ = false

-- the index at the place that was found, or the table
abbrev pub at_place : Option ℕ → Plan
at_place None = plan.Table
at_place (Some place) = plan.One place

-- The plan joins two plans so, whatever the indexes are.
abbrev pub Joins : (model.Plan → model.Plan → model.Plan) → Plan → Plan → Plan → Type 0
Joins join left right joined = (indexes : List Index) → IsWithin (length indexes) left → IsWithin (length indexes) right
    → (plan_of indexes joined ≡ join (plan_of indexes left) (plan_of indexes right)) × IsWithin (length indexes) joined
