use Rattle.gx_value.specs.Values.{row_of}
use Rattle.gx_target.proofs.ValueFacts.{ReadTo}
use Rattle.gx_target.proofs.values.read_values.Given as goal

abbrev pub invariant-loop-i : goal.invariant-loop-i
invariant-loop-i l = ReadTo l.columns l.places l.row l.i (row_of l.values.items)
