use Rattle.gx_disk.proofs.memory.answer_and_keep.Goals as goal

pub returns-clause-kept : goal.returns-clause-kept
returns-clause-kept c = (c.in_ok-copy.copy, c.in_ok-copy.ensures.items, rw (← c.reserve.ensures.items) c.in-Ok.ensures.items)
