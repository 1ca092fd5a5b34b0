use Rattle.std.proofs.Common.{◌≡◌, take}
use Rattle.gx_query.proofs.deletion.bitmap_of.Given as goal

abbrev pub invariant-loop-row : goal.invariant-loop-row
invariant-loop-row l = l.bitmap ≡ take l.row-index l.rows
