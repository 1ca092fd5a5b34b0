use Rattle.std.proofs.Common.{◌≡◌, ◌++◌, take}
use Rattle.std.specs.List.{flat_map}
use Rattle.gx_catalog.specs.Items.{column_bytes}
use Rattle.gx_catalog.proofs.writing.push_each.Given as goal

abbrev pub invariant-loop-column : goal.invariant-loop-column
invariant-loop-column l = l.to ≡ l.fn.to ++ flat_map column_bytes (take l.column-index l.columns)
