use Rattle.gx_class_intset.specs.IntervalLaws.{together_has}
use Rattle.gx_class_intset.proofs.laws.no_number_is_added.Goals as goal

pub returns : goal.returns
returns c = λ a b n. together_has b a n
