use Rattle.gx_bytes.proofs.DayLemmas.{day_printed}
use Rattle.gx_bytes.proofs.days.printed_day_again.Goals as goal

pub returns : goal.returns
returns c = day_printed
