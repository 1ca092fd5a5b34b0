use Rattle.std.proofs.Common.{ℕ, sym, subst, arith}
use Rattle.std.proofs.lemmas.Result.{on_ok_weaker, IfOk-weaker, IfErr-weaker}
use Rattle.gx_pages.proofs.Footprints.{cause_weaker}
use Rattle.gx_posting_tree.specs.PostingTrees.{HoldsList}
use Rattle.gx_gin_scan.proofs.Held.{of_tree}
use Rattle.gx_gin_scan.proofs.postings.rows_of_posting.Goals as goal

pub returns-clause-rows : goal.returns-clause-rows
returns-clause-rows g c =
    let old = c.args.pages.now in
    let bound = g.met.P.Pages.bounded old in
    let root = c.in-Some-root_in.root in
    IfOk-weaker c.rows.result _ _ (λ found is tells rows feet stands.
    is tells rows feet (subst (λ (n : ℕ). HoldsList (g.P.Pages.map old) (g.P.Pages.count old) n rows feet) (sym c.at.ensures)
    (of_tree (g.P.Pages.map old) (g.P.Pages.count old) c.args.posting.now root rows feet bound c.in-Some-root_in.ensures.fits c.in-Some-root_in.ensures.some stands)))
    c.rows.ensures.rows

pub returns-clause-fetches : goal.returns-clause-fetches
returns-clause-fetches g c =
    let old = c.args.pages.now in
    let bound = g.met.P.Pages.bounded old in
    let root = c.in-Some-root_in.root in
    on_ok_weaker c.rows.result (λ is tells rows feet stands.
    is tells rows feet (subst (λ (n : ℕ). HoldsList (g.P.Pages.map old) (g.P.Pages.count old) n rows feet) (sym c.at.ensures)
    (of_tree (g.P.Pages.map old) (g.P.Pages.count old) c.args.posting.now root rows feet bound c.in-Some-root_in.ensures.fits c.in-Some-root_in.ensures.some stands)))
    c.rows.ensures.fetches

pub returns-clause-cause : goal.returns-clause-cause
returns-clause-cause g c =
    let old = c.args.pages.now in
    let bound = g.met.P.Pages.bounded old in
    let root = c.in-Some-root_in.root in
    IfErr-weaker c.rows.result _ _ (λ error has.
    cause_weaker error (g.P.Pages.faults old) (g.P.Pages.faults old) (g.P.Pages.faults c.rows.new.pages) (g.P.Pages.faults c.rows.new.pages)
    _ _ _ _ _ _ (omega arith) (omega arith) (λ at expected found refused tells rows feet stands.
    refused tells rows feet (subst (λ (n : ℕ). HoldsList (g.P.Pages.map old) (g.P.Pages.count old) n rows feet) (sym c.at.ensures)
    (of_tree (g.P.Pages.map old) (g.P.Pages.count old) c.args.posting.now root rows feet bound c.in-Some-root_in.ensures.fits c.in-Some-root_in.ensures.some stands)))
    (λ n no. no) (λ m. m) has)
    c.rows.ensures.cause
