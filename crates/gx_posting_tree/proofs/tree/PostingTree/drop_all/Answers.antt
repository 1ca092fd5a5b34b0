use Rattle.std.proofs.Common.{[], ℕ, List, sym, subst, arith}
use Rattle.std.proofs.lemmas.Result.{on_ok_weaker, IfErr-weaker}
use Rattle.gx_pages.specs.Footprints.{KeepsPages}
use Rattle.gx_pages.proofs.Footprints.{cause_weaker}
use Rattle.gx_posting_tree.proofs.Held.{beside}
use Rattle.gx_posting_tree.proofs.tree.PostingTree.drop_all.Goals as goal

pub returns-clause-dropped : goal.returns-clause-dropped
returns-clause-dropped g c =
    on_ok_weaker c.drop_tree.result (λ dropped tells rows feet free held.
    let done = dropped tells held.held.tree free (beside g.P.Pages c.args.pages.now c.args.self.page rows feet free held) in
    (done.0, subst (λ (l : List ℕ). KeepsPages g.P.Pages c.args.pages.now c.drop_tree.new.pages l free [] done.0) (sym held.held.stand) done.1))
    c.drop_tree.ensures.dropped

pub returns-clause-cause : goal.returns-clause-cause
returns-clause-cause g c =
    IfErr-weaker c.drop_tree.result _ _ (λ error has.
    cause_weaker error (g.P.Pages.faults c.args.pages.now) (g.P.Pages.faults c.args.pages.now) (g.P.Pages.faults c.drop_tree.new.pages) (g.P.Pages.faults c.drop_tree.new.pages)
    _ _ _ _ _ _ (omega arith) (omega arith) (λ at expected found refused tells rows feet free held.
    refused tells held.held.tree free (beside g.P.Pages c.args.pages.now c.args.self.page rows feet free held)) (λ n no. no) (λ m. m) has)
    c.drop_tree.ensures.cause
