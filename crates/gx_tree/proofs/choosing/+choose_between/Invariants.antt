use Rattle.std.proofs.Common.{◌-◌}
use Rattle.gx_tree.proofs.choosing.+choose_between.Given as goal

abbrev pub decreases-choose_between : goal.decreases-choose_between
decreases-choose_between g l = l.end - l.slot
