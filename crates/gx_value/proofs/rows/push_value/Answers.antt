-- Byte 1, and the value's bytes as a field.
use Rattle.gx_value.specs.Values.{datum_of}
use Rattle.gx_value.proofs.RowLemmas.{value_pushed}
use Rattle.gx_value.proofs.rows.push_value.Goals as goal

pub returns-in_ok-push-in-Some : goal.returns-in_ok-push-in-Some
returns-in_ok-push-in-Some c =
    rw c.in-Some.is (
    value_pushed c.push_field.result c.args.to.now c.push.new.self c.push_field.new.to c.as_slice.result.now c.encode_value.new.to (datum_of c.in-Some.value) (rw c.truncate.ensures at c.in_ok-encode_value-in-Some.ensures)
    c.as_slice.ensures c.in_ok-push-in-Some.ensures.ok c.push_field.ensures.ok
    )
