use Rattle.gx_parse.proofs.FaultFacts.{one}
use Rattle.gx_parse.proofs.law.one_meaning.Goals as goal

pub returns : goal.returns
returns c = λ lim tokens said other s o. one lim tokens said other s o
