use Rattle.std.proofs.Common.{ℕ, sym, subst, arith}
use Rattle.std.proofs.lemmas.Result.{on_ok_weaker, IfErr-weaker}
use Rattle.gx_pages.proofs.Footprints.{cause_weaker}
use Rattle.gx_posting_tree.specs.PostingTrees.{HoldsRows}
use Rattle.gx_gin_scan.proofs.Held.{of_tree}
use Rattle.gx_gin_scan.proofs.dropping.drop_posting.Goals as goal

pub returns-clause-dropped : goal.returns-clause-dropped
returns-clause-dropped g c =
    let old = c.args.pages.now in
    let bound = g.met.P.Pages.bounded old in
    on_ok_weaker c.drop_all.result (λ is tells rows feet free stands frees apart.
    is tells rows feet free (subst (λ (n : ℕ). HoldsRows g.P.Pages old n rows feet free) (sym c.at.ensures) (record {
      held = of_tree (g.P.Pages.map old) (g.P.Pages.count old) c.args.posting.now c.in-Some-root_in.root rows feet bound c.in-Some-root_in.ensures.fits c.in-Some-root_in.ensures.some stands;
      frees = frees;
      apart = apart;
    })))
    c.drop_all.ensures.dropped

pub returns-clause-cause : goal.returns-clause-cause
returns-clause-cause g c =
    let old = c.args.pages.now in
    let bound = g.met.P.Pages.bounded old in
    IfErr-weaker c.drop_all.result _ _ (λ error has.
    cause_weaker error (g.P.Pages.faults old) (g.P.Pages.faults old) (g.P.Pages.faults c.drop_all.new.pages) (g.P.Pages.faults c.drop_all.new.pages)
    _ _ _ _ _ _ (omega arith) (omega arith)
    (λ at expected found refused tells rows feet free stands frees apart.
    refused tells rows feet free (subst (λ (n : ℕ). HoldsRows g.P.Pages old n rows feet free) (sym c.at.ensures) (record {
      held = of_tree (g.P.Pages.map old) (g.P.Pages.count old) c.args.posting.now c.in-Some-root_in.root rows feet bound c.in-Some-root_in.ensures.fits c.in-Some-root_in.ensures.some stands;
      frees = frees;
      apart = apart;
    })))
    (λ n none. none) (λ m. m) has)
    c.drop_all.ensures.cause
