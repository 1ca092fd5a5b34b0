use Rattle.gx_value.specs.Values.{row_of}
use Rattle.gx_target.proofs.ValueFacts.{Filling}
use Rattle.gx_target.proofs.values.fields_of.Given as goal

abbrev pub invariant-loop-place : goal.invariant-loop-place
invariant-loop-place l = Filling l.columns l.places (row_of l.fn.values.items) (row_of l.values.items) (row_of l.fields) l.place
