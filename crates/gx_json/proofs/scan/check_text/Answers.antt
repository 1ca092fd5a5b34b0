use Rattle.std.proofs.Common.{List, ℕ, true≢false, sym, ◌∙◌, subst}
use Rattle.gx_json.specs.Scan.{OpensTooMany}
use Rattle.gx_json.proofs.RunLemmas.{text_checked}
use Rattle.gx_json.proofs.scan.check_text.Goals as goal

pub returns : goal.returns
returns c =
    let one = c.as_slice.ensures ∙ c.in-Ok.ensures in
    let two = c.as_slice-2.ensures ∙ c.in-Ok.ensures in
    let few = λ (h : OpensTooMany c.as_slice.result.now). true≢false (sym (c.opens_too_many.ensures.1 h) ∙ c.if-opens_too_many.false) in
    text_checked c.args.text.now c.as_slice-2.result.now c.check_numbers.result two (subst (λ (p : List ℕ). OpensTooMany p → ⊥) (one ∙ sym two) few) c.check_numbers.ensures
