-- The first label, and the others behind dots.
use Rattle.std.proofs.Common.{◌≡◌, List, ℕ, ◌++◌, ap, ◌∙◌, subst, OnOk, append_assoc}
use Rattle.gx_ltree.specs.Text.{dots}
use Rattle.gx_ltree.proofs.ListSteps.{printed_first, rest_of}
use Rattle.gx_ltree.proofs.print.print_labels.Goals as goal

pub returns : goal.returns
returns c =
    let all = printed_first c.args.labels.now c.first-item.result c.in-len1-up.len_at_least c.first-item.is in
    let text = ap (λ (t : List ℕ). t ++ dots (rest_of c.args.labels.now)) (c.in_ok-extend_from_slice.ensures.ok ∙ ap (λ (t : List ℕ). c.args.to.now ++ t) c.as_slice.ensures) ∙ append_assoc c.args.to.now c.first-item.result (dots (rest_of c.args.labels.now)) ∙ ap (λ (t : List ℕ). c.args.to.now ++ t) all in
    let P : List ℕ → Type 0 = λ t. OnOk c.print_more.result (c.print_more.new.to ≡ t) in
    subst P text c.print_more.ensures
