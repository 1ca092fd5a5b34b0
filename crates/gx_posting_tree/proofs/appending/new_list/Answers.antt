use Rattle.std.proofs.Common.{◌++◌, [], ℕ, List, refl, sym, ◌∙◌, ap, subst}
use Rattle.gx_posting.specs.Postings.{Spells, entry_bytes}
use Rattle.gx_posting_tree.proofs.Edits.{empty_spells, row_short}
use Rattle.gx_posting_tree.proofs.appending.new_list.Goals as goal

pub returns-clause-spelled : goal.returns-clause-spelled
returns-clause-spelled c = c.in_ok-push_posting.ensures.list [] (subst (λ (l : List ℕ). Spells l []) (sym c.new-item.ensures) empty_spells) refl

pub returns-clause-short : goal.returns-clause-short
returns-clause-short c =
    let spells = c.in_ok-push_posting.ensures.list [] (subst (λ (l : List ℕ). Spells l []) (sym c.new-item.ensures) empty_spells) refl in
    let bytes = c.in_ok-push_posting.ensures.bytes ∙ ap (λ (l : List ℕ). l ++ entry_bytes 0 c.args.row) c.new-item.ensures in
    row_short c.args.row spells.fit.0 c.push_posting.new.to bytes
