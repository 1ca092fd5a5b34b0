use Rattle.std.proofs.Common.{length}
use Rattle.std.proofs.Common.{◌-◌}
use Rattle.gx_posting_tree.proofs.Fills.{Fills}
use Rattle.gx_posting_tree.proofs.filling.fill_page.Given as goal

abbrev pub decreases-lists : goal.decreases-lists
decreases-lists l = length l.rows - l.count

abbrev pub invariant-lists : goal.invariant-lists
invariant-lists l = Fills l.rows l.slots l.count
