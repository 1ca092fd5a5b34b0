use Rattle.std.proofs.Common.{length}
use Rattle.gx_hstore.specs.Text.{SpellsPairs}
use Rattle.gx_hstore.proofs.Progress.{Continues}
use Rattle.gx_hstore.proofs.text.pairs_of.Given as goal

abbrev pub invariant-pairs : goal.invariant-pairs
invariant-pairs l = Continues SpellsPairs l.text l.pairs.items l.rest

abbrev pub decreases-pairs : goal.decreases-pairs
decreases-pairs l = length l.rest
