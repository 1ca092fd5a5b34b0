use Rattle.std.proofs.Common.{Option, sym, ◌∙◌, ap, subst}
use Rattle.gx_parse.specs.Answers.{Answer}
use Rattle.gx_session.specs.Readings.{IsReading, fault_of}
use Rattle.gx_session.proofs.Pieces as pieces
use Rattle.gx_session.proofs.Results as results
use Rattle.gx_session.proofs.reading.read.Goals as goal

pub returns-in-TooLong-clause-read : goal.returns-in-TooLong-clause-read
returns-in-TooLong-clause-read c = results.if_ok_then c.refuse.result _ _
    (λ r h text e. h _ (ap (λ (o : Option Answer). fault_of o) (pieces.too_long text (e ∙ c.in-TooLong.is)))) c.refuse.ensures.read

pub returns-in-Text-clause-read : goal.returns-in-Text-clause-read
returns-in-Text-clause-read c = results.if_ok_then c.read_text.result _ _
    (λ r h text e.
    let At : Option Answer → Type 0 = λ o. IsReading o r in
    subst At (sym (pieces.not_too_long text _ (e ∙ c.in-Text.is))) (rw c.as_slice.ensures at h)) c.read_text.ensures.read
