use Rattle.std.proofs.Common.{◌++◌, ◌∷◌, [], ◌∙◌, List, refl, sym, ap, subst, append-nil}
use Rattle.std.proofs.lemmas.Bool.{false≢true}
use Rattle.gx_pages.specs.declared.row.RowRef.{RowRef}
use Rattle.gx_posting.specs.Postings.{Spells, last_of}
use Rattle.gx_posting_tree.proofs.Fills.{last_more}
use Rattle.gx_posting_tree.proofs.Kept.{one_goes, one_stays}
use Rattle.gx_posting_tree.proofs.removing.push_kept.Goals as goal

pub returns-then-has-clause-list : goal.returns-then-has-clause-list
returns-then-has-clause-list c = λ rows spells ends.
    subst (λ (l : List RowRef). Spells c.args.item.now l) (sym (ap (λ (l : List RowRef). rows ++ l) (one_goes c.args.gone.now c.args.row (c.has.ensures.0 c.if-has.true)) ∙ append-nil rows)) spells

pub returns-then-has-clause-last : goal.returns-then-has-clause-last
returns-then-has-clause-last c = λ rows ends.
    ap (λ (l : List RowRef). last_of l) (ap (λ (l : List RowRef). rows ++ l) (one_goes c.args.gone.now c.args.row (c.has.ensures.0 c.if-has.true)) ∙ append-nil rows) ∙ ends

pub returns-clause-list : goal.returns-clause-list
returns-clause-list c = λ rows spells ends.
    subst (λ (l : List RowRef). Spells c.push_posting.new.to (rows ++ l)) (sym (one_stays c.args.gone.now c.args.row (λ has. false≢true (sym c.if-has.false ∙ c.has.ensures.1 has))))
    (c.in_ok-push_posting.ensures.list rows spells ends)

pub returns-clause-last : goal.returns-clause-last
returns-clause-last c = λ rows ends.
    ap (λ (l : List RowRef). last_of (rows ++ l)) (one_stays c.args.gone.now c.args.row (λ has. false≢true (sym c.if-has.false ∙ c.has.ensures.1 has)))
    ∙ sym (last_more rows (rows ++ c.args.row ∷ []) c.args.row refl)
