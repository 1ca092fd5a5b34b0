use Rattle.std.proofs.Common.{◌∙◌, ap, arith}
use Rattle.std.proofs.lemmas.Result.{err_from_is_err_and}
use Rattle.gx_words.specs.PageMap.{PageMap}
use Rattle.gx_pages.proofs.Footprints.{cause_weaker, with_same}
use Rattle.gx_gist_tree.proofs.PutPages.{one_keeps, written}
use Rattle.gx_gist_tree.proofs.putting.put_one.Goals as goal

pub returns-in_err-put-clause-cause : goal.returns-in_err-put-clause-cause
returns-in_err-put-clause-cause g c =
    let old = c.args.pages.now in
    let p = err_from_is_err_and c.from_residual.result c.from_residual.ensures.1 in
    rw (p.1, p.2)
    (cause_weaker c.in_err-put.field-0.0 (g.P.Pages.faults old) (g.P.Pages.faults old) (g.P.Pages.faults c.put.new.self) (g.P.Pages.faults c.put.new.self) _ _ _ _ _ _ (omega arith) (omega arith)
    (λ at expected found broken. (let low = c.requires.below in let high = broken.1 in omega (arith, low, high))) (λ n no. absurd no) (λ has. has) c.in_err-put.ensures.cause)

pub returns-clause-put : goal.returns-clause-put
returns-clause-put g c = λ tells free list out.
    let old = c.args.pages.now in
    let new = c.put.new.self in
    let map = c.in_ok-put.ensures.map tells in (
      written (g.P.Pages.map new) c.args.page c.page.result.now c.args.slots.now c.requires.nonzero (ap (λ (m : PageMap). m c.args.page) map ∙ with_same (g.P.Pages.map old) c.args.page c.page.result.now)
          c.page.ensures.spelled c.page.ensures.fits,
      one_keeps g.P.Pages old new c.args.page c.page.result.now free list c.requires.nonzero out map c.in_ok-put.ensures.count,
    )
