use Rattle.gx_bytes.proofs.Spellings.{varints_same, fields_same, varint_is, varint_only, field_is, field_only}
use Rattle.gx_bytes.proofs.varints.one_spelling.Goals as goal

pub returns-clause-number : goal.returns-clause-number
returns-clause-number c = varint_is

pub returns-clause-number_only : goal.returns-clause-number_only
returns-clause-number_only c = varint_only

pub returns-clause-part : goal.returns-clause-part
returns-clause-part c = field_is

pub returns-clause-part_only : goal.returns-clause-part_only
returns-clause-part_only c = field_only

pub returns-clause-varints : goal.returns-clause-varints
returns-clause-varints c = varints_same

pub returns-clause-fields : goal.returns-clause-fields
returns-clause-fields c = fields_same
