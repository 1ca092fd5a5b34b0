use Rattle.std.proofs.Common.{length}
use Rattle.gx_ltree.proofs.Progress.{HasRead}
use Rattle.gx_ltree.proofs.text.labels_of.Given as goal

abbrev pub invariant-labels : goal.invariant-labels
invariant-labels l = HasRead l.text l.path l.rest

abbrev pub decreases-labels : goal.decreases-labels
decreases-labels l = length l.rest
