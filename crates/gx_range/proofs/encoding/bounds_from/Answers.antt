use Rattle.std.proofs.Common.{ap, get_or, is_some}
use Rattle.gx_range.proofs.encoding.bounds_from.Goals as goal

pub returns-in-None : goal.returns-in-None
returns-in-None c = λ l u fl fu e. c.in-None.ensures (is_some l) (is_some u) (ap (λ t. get_or t 0 0) e)
