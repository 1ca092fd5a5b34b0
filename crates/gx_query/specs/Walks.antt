-- Rows as they are looked at one after another, and what is done with those of which a condition is true.
use Rattle.std.specs.Prelude.{◌≡◌, ◌≢◌, ◌+◌, List, [], ◌∷◌, length, filter, Option, None, Some, option_map}
use Rattle.gx_pages.specs.declared.error.PageError.{PageError}
use Rattle.gx_pages.specs.declared.error.PageError.TheVariants.{DiskFault, Broken, PageSpace, Memory}
use Rattle.gx_value.specs.declared.fields.Column.{Column}
use Rattle.gx_value.specs.declared.types.ColumnType.{ColumnType}
use Rattle.gx_model.specs.Truth.{Bound, selects}
use Rattle.gx_plan.specs.Bounds.{bound_of, kinds_of, IsBound}
use Rattle.gx_query.specs.declared.counts.Counts.{Counts}
use Rattle.gx_query.specs.declared.filter.Filter.{Filter}
use Rattle.gx_query.specs.Seen.{Seen}
use Rattle.gx_query.specs.Wanted.{CoversWhere}

-- those of which the condition is true
abbrev pub picked : Option Bound → List Seen → List Seen
picked condition seen = filter (λ s. selects condition s.1) seen

-- what a visitor is that was shown these rows
abbrev pub visited : {V : Type 0} → (V → Seen → V) → V → List Seen → V
visited after v [] = v
visited after v (s ∷ seen) = visited after (after v s) seen

-- These rows were looked at: those of which the condition is true were shown to the visitor, and both were counted.
pub record Shown {V : Type 0} (after : V → Seen → V) (condition : Option Bound) (old new : V) (before now : Counts) (seen : List Seen) : Type 0 where
  pub visitor : new ≡ visited after old (picked condition seen)
  pub rows : now.rows ≡ before.rows + length seen
  pub selected : now.selected ≡ before.selected + length (picked condition seen)

-- the condition of a filter, if any, without its boxes
abbrev pub condition_of : Filter → Option Bound
condition_of filter = option_map bound_of filter.condition

abbrev pub IsBoundWhere : List ColumnType → Option Bound → Type 0
IsBoundWhere kinds None = Unit {0}
IsBoundWhere kinds (Some condition) = IsBound kinds condition

-- The filter can be asked of the rows of a table with these columns.
pub record IsFilter (columns : List Column) (filter : Filter) : Type 0 where
  pub kinds : filter.kinds.items ≡ kinds_of columns
  pub bound : IsBoundWhere (kinds_of columns) (condition_of filter)
  pub long : length filter.wanted.items ≡ length columns
  pub covers : CoversWhere filter.wanted.items (condition_of filter)

-- A page is broken, and then this is so; or there is no memory.
abbrev pub Breaks : Type 0 → PageError → Type 0
Breaks broken DiskFault = ⊥
Breaks broken (Broken page expected found) = (expected ≢ found) × broken
Breaks broken (PageSpace pages) = ⊥
Breaks broken Memory = Unit {0}
