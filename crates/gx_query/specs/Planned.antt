-- The plan of a query.
use Rattle.std.specs.Prelude.{◌≡◌, ℕ, Option, None, Some}
use Rattle.gx_catalog.specs.Catalogs.{Directory}
use Rattle.gx_model.specs.Truth.{Bound}
use Rattle.gx_plan.specs.Plans.{IsChosen}
use Rattle.gx_plan.specs.declared.plan.Plan.{Plan}
use Rattle.gx_plan.specs.declared.plan.Plan.TheVariants.{Table}

-- The plan is that of the condition; without one it is the whole table.
abbrev pub IsChosenWhere : Directory → ℕ → Option Bound → Plan → Type 0
IsChosenWhere catalog table None plan = plan ≡ Table
IsChosenWhere catalog table (Some condition) plan = IsChosen catalog table condition plan
