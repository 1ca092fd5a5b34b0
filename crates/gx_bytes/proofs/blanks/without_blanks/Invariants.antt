use Rattle.std.proofs.Common.{◌≡◌, length}
use Rattle.gx_bytes.specs.Blanks.{without_leading_blank}
use Rattle.gx_bytes.proofs.blanks.without_blanks.Given as goal

abbrev pub invariant-loop-rest : goal.invariant-loop-rest
invariant-loop-rest l = without_leading_blank l.rest ≡ without_leading_blank l.bytes

abbrev pub decreases-loop-rest : goal.decreases-loop-rest
decreases-loop-rest l = length l.rest
