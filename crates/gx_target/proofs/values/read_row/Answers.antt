use Rattle.gx_value.specs.Values.{row_of}
use Rattle.gx_target.proofs.ValueFacts.{row_read}
use Rattle.gx_target.proofs.values.read_row.Goals as goal

pub returns-in-Ok : goal.returns-in-Ok
returns-in-Ok c = row_read c.args.columns.now c.args.places.now c.args.row.now (row_of c.in_ok-values.values.items) (row_of c.in-Ok.fields) c.requires.distinct c.requires.places c.in_ok-values.ensures c.in-Ok.ensures
