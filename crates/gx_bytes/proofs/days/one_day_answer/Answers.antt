use Rattle.gx_bytes.proofs.DayLemmas.{one_answer}
use Rattle.gx_bytes.proofs.days.one_day_answer.Goals as goal

pub returns : goal.returns
returns c = one_answer
