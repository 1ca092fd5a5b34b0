-- Some bytes are left.
use Rattle.gx_formula.proofs.ReadLemmas.{some_length}
use Rattle.gx_class_intset.proofs.ReadFacts.{pieces_left}
use Rattle.gx_class_intset.proofs.read.pieces_from.Goals as goal

pub returns-else-is_empty : goal.returns-else-is_empty
returns-else-is_empty c = pieces_left c.args.bytes.now c.intervals.rest.now c.intervals.list.items c.intervals.invariant (some_length _ c.if-is_empty.ensures) c.in_default.ensures
