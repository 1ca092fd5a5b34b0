use Rattle.std.proofs.Common.{◌≡◌, ◌≢◌, ◌≤◌, ◌<◌, ◌+◌, List, ℕ, refl, sym, ◌∙◌, ap, subst, arith}
use Rattle.std.proofs.lemmas.Result.{err_from_is_err_and}
use Rattle.gx_pages.proofs.Footprints.{cause_weaker}
use Rattle.gx_slot.specs.Slots.{Fits, Slots, spelling}
use Rattle.gx_tree.specs.Trees.{slots_of}
use Rattle.gx_tree.proofs.Causes.{broken_cause}
use Rattle.gx_tree.proofs.Rewrites.{page_low, rewritten}
use Rattle.gx_tree.proofs.rewriting.rewrite_leaf.Goals as goal

pub returns-then-page-eq0-clause-cause : goal.returns-then-page-eq0-clause-cause
returns-then-page-eq0-clause-cause g c =
    broken_cause c.broken.result c.args.page _ _ _ _ _ c.broken.ensures (λ tells kind root tree free was held leaf. leaf.on.some c.if-page-eq0.true)

pub returns-in_err-put-clause-cause : goal.returns-in_err-put-clause-cause
returns-in_err-put-clause-cause g c =
    let p = err_from_is_err_and c.from_residual.result c.from_residual.ensures.1 in
    let old = c.args.pages.now in
    let new = c.put.new.self in
    rw (p.1, p.2)
    (cause_weaker c.in_err-put.field-0.0 (g.P.Pages.faults old) (g.P.Pages.faults old) (g.P.Pages.faults new) (g.P.Pages.faults new)
    _ _ _ _ _ _ (omega arith) (omega arith)
    (λ at expected found broken tells kind root tree free was held leaf.
    let low = page_low g.P.Pages old new g.S.Seek.order (g.S.Seek.sought c.args._seek.now) kind root tree free held c.args.page was leaf in
    let past = broken.1 in
    omega (arith, low, past))
    (λ n no. absurd no) (λ m. m) c.in_err-put.ensures.cause)

pub returns-clause-rewritten : goal.returns-clause-rewritten
returns-clause-rewritten g c = λ tells kind root tree free was items held leaf is are.
    rewritten g.P.Pages c.args.pages.now c.put.new.self g.S.Seek.order (g.S.Seek.sought c.args._seek.now) kind root tree free held c.args.page was leaf items are c.page.result.now
    (c.in_ok-put.ensures.map tells) c.in_ok-put.ensures.count
    (c.page.ensures.spelled ∙ ap (λ (s : Slots). spelling s) is) (subst (λ (s : Slots). Fits s) is c.page.ensures.fits)
