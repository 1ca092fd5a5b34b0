use Rattle.std.proofs.Common.{◌≡◌, take}
use Rattle.gx_gin_scan.specs.Searches.{picked}
use Rattle.gx_gin_scan.proofs.searching.pick.Given as goal

abbrev pub invariant-loop-row : goal.invariant-loop-row
invariant-loop-row g l = l.found ≡ picked (g.C.GinClass.passes_of l.class l.query) l.lists (take l.row-index l.rows)
