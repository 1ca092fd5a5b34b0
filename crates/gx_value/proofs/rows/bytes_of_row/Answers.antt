-- One field more, and the end.
use Rattle.gx_value.proofs.RowLemmas.{value_written, values_written}
use Rattle.gx_value.proofs.rows.bytes_of_row.Goals as goal

pub loop-value-preserved : goal.loop-value-preserved
loop-value-preserved c =
    value_written c.args.values.now c.loop-value.bytes c.push_value.new.to c.loop-value.value-index c.value-item.result c.loop-value-test.true c.value-item.is c.loop-value.invariant c.in_ok-push_value.ensures

pub returns : goal.returns
returns c = values_written c.args.values.now c.loop-value.bytes c.loop-value.value-index c.loop-value-test.false c.loop-value.invariant
