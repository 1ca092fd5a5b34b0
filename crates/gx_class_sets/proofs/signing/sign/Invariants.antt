use Rattle.std.proofs.Common.{◌≡◌, take, length}
use Rattle.gx_class_sets.proofs.SignLemmas.{signed_from}
use Rattle.gx_class_sets.proofs.signing.sign.Given as goal

abbrev pub invariant-loop-number : goal.invariant-loop-number
invariant-loop-number g l = l.sig ≡ signed_from g.row.N (take l.number-index l.numbers)
