use Rattle.std.proofs.Common.{◌+◌, ◌*◌}
use Rattle.gx_tree.proofs.changing.+change.Given as goal

abbrev pub decreases-change_below : goal.decreases-change_below
decreases-change_below g l = 2 * l.level

abbrev pub decreases-change_under : goal.decreases-change_under
decreases-change_under g l = 2 * l.below + 1
