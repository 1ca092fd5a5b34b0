use Rattle.gx_class_intset.specs.JoinLaws.{reduced_joins_least}
use Rattle.gx_class_intset.proofs.laws.least_gaps_are_joined.Goals as goal

pub returns : goal.returns
returns c = reduced_joins_least
