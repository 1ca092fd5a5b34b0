-- Some bytes are left.
use Rattle.gx_formula.proofs.ReadLemmas.{some_length}
use Rattle.gx_intarr.proofs.EncodingLemmas.{bytes_left}
use Rattle.gx_intarr.proofs.encoding.items_from.Goals as goal

pub returns-else-is_empty : goal.returns-else-is_empty
returns-else-is_empty c = bytes_left c.args.bytes.now c.numbers.rest.now c.numbers.items.items c.numbers.invariant (some_length _ c.if-is_empty.ensures) c.in_default.ensures
