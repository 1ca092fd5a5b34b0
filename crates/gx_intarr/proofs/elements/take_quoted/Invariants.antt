use Rattle.std.proofs.Common.{length}
use Rattle.gx_intarr.proofs.ElementLemmas.{HasSigns}
use Rattle.gx_intarr.proofs.elements.take_quoted.Given as goal

abbrev pub invariant-signs : goal.invariant-signs
invariant-signs l = HasSigns l.inside l.text l.rest

abbrev pub decreases-signs : goal.decreases-signs
decreases-signs l = length l.rest
