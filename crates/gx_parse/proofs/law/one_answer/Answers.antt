use Rattle.gx_parse.proofs.OneFault.{says_it, is_wrong, is_deep}
use Rattle.gx_parse.proofs.law.one_answer.Goals as goal

pub returns : goal.returns
returns c = record { says = says_it; wrong = is_wrong; deep = is_deep }
