use Rattle.std.proofs.Common.{◌≡◌, take}
use Rattle.gx_plan.specs.Bounds.{kinds_of}
use Rattle.gx_query.proofs.filter.types_of.Given as goal

abbrev pub invariant-loop-column : goal.invariant-loop-column
invariant-loop-column l = l.kinds.items ≡ kinds_of (take l.column-index l.columns)
