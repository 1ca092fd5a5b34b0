-- No value in front, and one.
use Rattle.gx_hstore.proofs.EncodingLemmas.{value_taken, no_value_field}
use Rattle.gx_hstore.proofs.encoding.take_value.Goals as goal

pub returns-in_err-value : goal.returns-in_err-value
returns-in_err-value c =
    rw c.from_residual-in_err-value.ensures (no_value_field c.args.bytes.now c.in_ok-behind_byte.field-0.now c.in_ok-behind_byte.ensures c.in_err-value.ensures)

pub returns : goal.returns
returns c =
    value_taken c.args.bytes.now c.in_ok-behind_byte.field-0.now c.in_ok-value.value.now c.in_ok-value.rest.now c.in_ok-behind_byte.ensures c.in_ok-value.ensures
