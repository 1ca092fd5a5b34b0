use Rattle.gx_bytes.specs.Fields.{le16-same, le32-same, le64-same}
use Rattle.gx_bytes.proofs.fields.one_number.Goals as goal

pub returns-clause-two : goal.returns-clause-two
returns-clause-two c = le16-same

pub returns-clause-four : goal.returns-clause-four
returns-clause-four c = le32-same

pub returns-clause-eight : goal.returns-clause-eight
returns-clause-eight c = le64-same
