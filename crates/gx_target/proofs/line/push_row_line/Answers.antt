use Rattle.gx_target.proofs.LineFacts.{field_count}
use Rattle.gx_target.proofs.line.push_row_line.Goals as goal

pub push_fields-requires-clause-count : goal.push_fields-requires-clause-count
push_fields-requires-clause-count c = field_count c.args.columns.now c.args.fields.now c.requires.fields
