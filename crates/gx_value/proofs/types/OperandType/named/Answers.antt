use Rattle.gx_value.proofs.types.OperandType.named.Goals as goal

pub returns-else-list : goal.returns-else-list
returns-else-list c = rw c.if-list.false c.kind_among-else-list.ensures
