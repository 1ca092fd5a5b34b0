use Rattle.std.proofs.Common.{length}
use Rattle.gx_class_intset.proofs.ReadFacts.{HasPieces}
use Rattle.gx_class_intset.proofs.read.pieces_from.Given as goal

abbrev pub invariant-intervals : goal.invariant-intervals
invariant-intervals l = HasPieces l.bytes l.list.items l.rest

abbrev pub decreases-intervals : goal.decreases-intervals
decreases-intervals l = length l.rest
