use Rattle.gx_parse.proofs.SoundFacts.{sound}
use Rattle.gx_parse.proofs.SaidFacts.{complete}
use Rattle.gx_parse.proofs.law.one_statement.Goals as goal

pub returns : goal.returns
returns c = λ lim tokens said. (sound lim tokens said, complete lim tokens said)
