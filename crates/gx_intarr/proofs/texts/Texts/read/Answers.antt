-- The elements in braces.
use Rattle.std.proofs.Common.{◌∙◌, sym, ap, true≢false}
use Rattle.gx_bytes.specs.Blanks.{core_of}
use Rattle.gx_intarr.proofs.TextLemmas.{answers_elements}
use Rattle.gx_intarr.proofs.texts.Texts.read.Goals as goal

pub returns : goal.returns
returns c =
    let core = ap core_of (sym c.as_bytes.ensures.value) ∙ sym c.trimmed.ensures ∙ c.in-Some.ensures in
    answers_elements c.args.text.now c.in-Some.body.now c.elements_of.result core (λ e. true≢false (sym (c.is_end.ensures.1 e) ∙ c.if-is_end.false)) c.elements_of.ensures
