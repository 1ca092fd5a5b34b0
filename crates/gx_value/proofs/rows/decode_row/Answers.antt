-- No field, one field more, and the end.
use Rattle.gx_value.proofs.RowLemmas.{no_value_read, value_read, values_read}
use Rattle.gx_value.proofs.rows.decode_row.Goals as goal

pub returns-in_default : goal.returns-in_default
returns-in_default c =
    let none = rw c.in_default.is at c.in_ok-value.ensures in
    no_value_read c.args.kinds.now c.args.bytes.now c.loop-kind.fields c.loop-kind.kind-index c.loop-kind.rest.now c.loop-kind-test.true c.loop-kind.invariant none

pub loop-kind-preserved : goal.loop-kind-preserved
loop-kind-preserved c =
    let taken = rw c.in-Some.is at c.in_ok-value.ensures in
    value_read c.args.kinds.now c.args.bytes.now c.loop-kind.fields c.push.new.self c.loop-kind.kind-index c.loop-kind.rest.now c.in-Some.after.now c.in-Some.value c.loop-kind-test.true c.loop-kind.invariant taken c.in_ok-push.ensures.ok

pub returns-then-is_empty : goal.returns-then-is_empty
returns-then-is_empty c =
    values_read c.args.kinds.now c.args.bytes.now c.loop-kind.fields c.loop-kind.kind-index c.loop-kind.rest.now c.loop-kind-test.false c.loop-kind.invariant c.if-is_empty.ensures
