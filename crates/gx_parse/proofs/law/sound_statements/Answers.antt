use Rattle.gx_parse.specs.Outcomes.{limits}
use Rattle.gx_lexer.specs.Tokens.{tokens_of}
use Rattle.gx_parse.specs.Faults.{plain}
use Rattle.gx_parse.proofs.OneFault.{says_it}
use Rattle.gx_parse.proofs.SaidParts.{said_sound, of_places}
use Rattle.gx_parse.proofs.law.sound_statements.Goals as goal

pub returns : goal.returns
returns c = λ piece said e.
    said_sound limits (plain (tokens_of piece)) said ((says_it piece said).0 e).1 (of_places (tokens_of piece) (c.words_are_short.ensures piece))
