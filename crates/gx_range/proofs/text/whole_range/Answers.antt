use Rattle.std.proofs.Common.{◌≡◌, ℕ, Bool, true, nat_eq, List, [], ◌∷◌, length, refl, sym, ap, ◌∙◌, true≢false, eqb-true, arith}
use Rattle.std.proofs.lemmas.Result.{err_from_is_err_and}
use Rattle.gx_range.proofs.TextLemmas.{form_fault, step_fault, more_behind, read_whole}
use Rattle.gx_range.proofs.text.whole_range.Goals as goal

empty_from : (t : List ℕ) (b : Bool) → b ≡ nat_eq (length t) 0 → b ≡ true → t ≡ []
empty_from [] b e f = refl
empty_from (x ∷ xs) b e f =
    let none : length (x ∷ xs) ≡ 0 = eqb-true (length (x ∷ xs)) 0 (sym e ∙ f) in
    absurd (omega (arith, none))

pub returns-in_err-form : goal.returns-in_err-form
returns-in_err-form c =
    let p = err_from_is_err_and c.from_residual.result c.from_residual.ensures.1 in
    rw (p.1, p.2) (form_fault c.args.kind c.args.core.now c.in_err-form.field-0.0 c.requires c.in_err-form.ensures)

pub returns-in_err-range : goal.returns-in_err-range
returns-in_err-range c =
    let p = err_from_is_err_and c.from_residual-in_err-range.result c.from_residual-in_err-range.ensures.1 in
    rw (p.1, p.2) (step_fault c.args.kind c.args.core.now c.in_ok-form.form c.in_ok-form.after.now c.in_err-range.field-0.0 c.requires c.in_ok-form.ensures (sym c.range_of.ensures ∙ c.in_err-range.was))

pub returns-then-not-is_empty : goal.returns-then-not-is_empty
returns-then-not-is_empty c =
    more_behind c.args.kind c.args.core.now c.in_ok-form.form c.in_ok-form.after.now c.in_ok-range.range c.requires c.in_ok-form.ensures (sym c.range_of.ensures ∙ c.in_ok-range.was)
    (λ e. true≢false (sym (c.is_empty.ensures ∙ ap (λ t. nat_eq (length t) 0) e) ∙ c.if-not-is_empty.true))

pub returns : goal.returns
returns c =
    read_whole c.args.kind c.args.core.now c.in_ok-form.form c.in_ok-form.after.now c.in_ok-range.range c.in_ok-form.ensures (sym c.range_of.ensures ∙ c.in_ok-range.was)
    (empty_from c.in_ok-form.after.now c.is_empty.result c.is_empty.ensures c.if-not-is_empty.false)
