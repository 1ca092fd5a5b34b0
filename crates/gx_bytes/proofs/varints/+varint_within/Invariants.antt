use Rattle.std.proofs.Common.{length}
use Rattle.gx_bytes.proofs.varints.+varint_within.Given as goal

abbrev pub decreases-varint_within : goal.decreases-varint_within
decreases-varint_within l = length l.bytes.now
