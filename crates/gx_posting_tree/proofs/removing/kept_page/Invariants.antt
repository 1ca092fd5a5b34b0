use Rattle.gx_posting_tree.proofs.Kept.{Keeping}
use Rattle.gx_posting_tree.proofs.removing.kept_page.Given as goal

abbrev pub invariant-loop-slot : goal.invariant-loop-slot
invariant-loop-slot l = Keeping l.gone l.was.items l.slot l.kept
