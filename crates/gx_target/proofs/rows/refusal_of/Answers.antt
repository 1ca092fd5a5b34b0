use Rattle.gx_target.proofs.RowFacts.{row_too_long}
use Rattle.gx_target.proofs.rows.refusal_of.Goals as goal

pub returns-in-TooLong : goal.returns-in-TooLong
returns-in-TooLong c = λ columns targets row fields read refuses. row_too_long columns targets row fields c.args.error _ c.in-TooLong.is read refuses
