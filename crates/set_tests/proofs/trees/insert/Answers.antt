use Rattle.set_tests.proofs.trees.insert.Goals as goal

pub insert-requires-clause-key : goal.insert-requires-clause-key
insert-requires-clause-key g c = (c.in_ok-value.value, c.in_ok-value.ensures, c.in-Ok.ensures)
