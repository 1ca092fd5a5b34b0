use Rattle.std.proofs.Common.{◌≡◌, take}
use Rattle.gx_gin_scan.specs.Searches.{joined}
use Rattle.gx_gin_scan.proofs.searching.join.Given as goal

abbrev pub invariant-loop-list : goal.invariant-loop-list
invariant-loop-list l = l.rows.items ≡ joined (take l.list-index l.lists)
