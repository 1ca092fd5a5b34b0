use Rattle.std.proofs.Common.{Some, sym, ap, subst}
use Rattle.gx_parse.specs.Answers.{Answer, answer_of}
use Rattle.gx_session.specs.Readings.{IsReading, fault_of}
use Rattle.gx_session.proofs.Results as results
use Rattle.gx_session.proofs.reading.read_text.Goals as goal

pub returns-in-Ok-clause-read : goal.returns-in-Ok-clause-read
returns-in-Ok-clause-read c = ap (λ (a : Answer). Some a) ((c.one_answer.ensures.says c.args.text.now _).1 c.in-Ok.ensures.answer)

pub returns-in-Err-Syntax-clause-read : goal.returns-in-Err-Syntax-clause-read
returns-in-Err-Syntax-clause-read c =
    let answer = rw c.in-Err-Syntax.field-0-is at c.in-Err-Syntax.ensures.answer in
    results.if_ok_then c.refuse_at.result _ _
    (λ r h.
    let At : Answer → Type 0 = λ a. IsReading (Some a) r in
    subst At (sym ((c.one_answer.ensures.wrong c.args.text.now _).1 answer)) h) c.refuse_at.ensures.read

pub returns-in-Err-TooDeep-clause-read : goal.returns-in-Err-TooDeep-clause-read
returns-in-Err-TooDeep-clause-read c =
    let answer = rw c.in-Err-TooDeep.field-0-is at c.in-Err-TooDeep.ensures.answer in
    results.if_ok_then c.refuse.result _ _
    (λ r h. h (Some (answer_of c.args.text.now)) (ap (λ (a : Answer). fault_of (Some a)) ((c.one_answer.ensures.deep c.args.text.now).1 answer))) c.refuse.ensures.read
