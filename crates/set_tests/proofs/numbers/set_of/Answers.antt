use Rattle.set_tests.proofs.NumberLemmas.{are_int4}
use Rattle.set_tests.proofs.numbers.set_of.Goals as goal

pub returns-in-Ok : goal.returns-in-Ok
returns-in-Ok c = are_int4 c.in-Ok.ensures.texts c.in-Ok.set c.in-Ok.ensures.numbers
