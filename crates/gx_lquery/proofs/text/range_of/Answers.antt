-- The lower limit is none.
use Rattle.gx_lquery.proofs.text.range_of.Goals as goal

pub returns-in_default : goal.returns-in_default
returns-in_default c = λ least most s. (rw c.in_default.is at c.least_of.ensures) least s.0
