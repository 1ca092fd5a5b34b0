use Rattle.std.proofs.Common.{◌+◌, ◌*◌}
use Rattle.gx_gist_tree.proofs.insertion.+insert.Given as goal

abbrev pub decreases-insert_on_page : goal.decreases-insert_on_page
decreases-insert_on_page g l = 3 * l.level

abbrev pub decreases-insert_below : goal.decreases-insert_below
decreases-insert_below g l = 3 * l.below + 2

abbrev pub decreases-insert_on_child : goal.decreases-insert_on_child
decreases-insert_on_child g l = 3 * l.below + 1
