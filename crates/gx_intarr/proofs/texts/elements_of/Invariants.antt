use Rattle.std.proofs.Common.{length}
use Rattle.gx_intarr.proofs.TextLemmas.{HasRead}
use Rattle.gx_intarr.proofs.texts.elements_of.Given as goal

abbrev pub invariant-elements : goal.invariant-elements
invariant-elements l = HasRead l.text l.texts l.rest

abbrev pub decreases-elements : goal.decreases-elements
decreases-elements l = length l.rest
