use Rattle.std.proofs.Common.{◌++◌, ◌∙◌, List, sym, ap, subst}
use Rattle.gx_pages.specs.declared.row.RowRef.{RowRef}
use Rattle.gx_posting.specs.Postings.{Spells}
use Rattle.gx_posting.proofs.PostingFacts.{one_spelled}
use Rattle.gx_posting_tree.specs.PostingTrees.{without}
use Rattle.gx_posting_tree.proofs.removing.kept_item.Goals as goal

pub returns-clause-kept : goal.returns-clause-kept
returns-clause-kept c = λ rows spells.
    let read = c.in-Ok-true.ensures.read (cc) in
    let same = one_spelled c.args.item.now rows read.0 spells read.1 in
    subst (λ (l : List RowRef). Spells c.in-Ok.kept (without c.args.gone.now l)) (read.2 ∙ ap (λ (l : List RowRef). l ++ read.0) c.new-rows.ensures ∙ sym same) c.in-Ok.ensures
