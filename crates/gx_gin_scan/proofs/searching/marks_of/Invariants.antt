use Rattle.std.proofs.Common.{◌≡◌, take}
use Rattle.gx_gin_scan.specs.Searches.{marks}
use Rattle.gx_gin_scan.proofs.searching.marks_of.Given as goal

abbrev pub invariant-loop-list : goal.invariant-loop-list
invariant-loop-list l = l.found.items ≡ marks (take l.list-index l.lists) l.number
