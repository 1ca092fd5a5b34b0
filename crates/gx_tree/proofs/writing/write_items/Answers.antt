use Rattle.std.proofs.Common.{◌≡◌, ◌≢◌, ◌+◌, ◌-◌, ◌≤◌, ◌<◌, ℕ, List, Option, length, take, drop, refl, sym, ◌∙◌, ap, subst, arith}
use Rattle.std.proofs.lemmas.Result.{err_from_is_err_and, IfErr-weaker}
use Rattle.std.proofs.lemmas.List.{take_all}
use Rattle.gx_pages.proofs.Footprints.{cause_weaker}
use Rattle.gx_tree.specs.Paging.{weight}
use Rattle.gx_tree.proofs.Writes.{spelled, whole_parted}
use Rattle.gx_tree.proofs.writing.write_items.Goals as goal

pub returns-in_err-put-in-Some-clause-cause : goal.returns-in_err-put-in-Some-clause-cause
returns-in_err-put-in-Some-clause-cause g c =
    let p = err_from_is_err_and c.from_residual.result c.from_residual.ensures.1 in
    rw (p.1, p.2)
    (cause_weaker c.in_err-put-in-Some.field-0.0 (g.P.Pages.faults c.args.pages.now) (g.P.Pages.faults c.args.pages.now) (g.P.Pages.faults c.put.new.self) (g.P.Pages.faults c.put.new.self)
    _ _ _ _ _ _ (omega arith) (omega arith)
    (λ at expected found broken tells free frees low can. let past = broken.1 in omega (arith, low, past))
    (λ n no. absurd no) (λ m. m) c.in_err-put-in-Some.ensures.cause)

pub returns-in_ok-put-in-Some-clause-parted : goal.returns-in_ok-put-in-Some-clause-parted
returns-in_ok-put-in-Some-clause-parted g c = λ tells free frees outside low.
    let len = c.len-len.ensures in (
      free,
      whole_parted g.P.Pages c.args.pages.now c.put.new.self c.args.kind c.args.level c.args.least c.args.page c.args.items.now c.requires c.in_ok-put-in-Some.ensures.count c.page.result.now (c.in_ok-put-in-Some.ensures.map tells) c.in-Some.whole
          (c.in-Some.ensures.some (omega arith) ∙ ap (λ (n : ℕ). spelled c.args.kind c.args.level (drop 0 (take n c.args.items.now))) len) c.page.ensures.spelled c.page.ensures.fits free frees outside,
      tt,
    )

pub returns-in-None-clause-cause : goal.returns-in-None-clause-cause
returns-in-None-clause-cause g c =
    let len = c.len-len.ensures in
    let all = ap (λ (l : List (List ℕ)). weight l) (take_all c.len-len.result c.args.items.now (omega (arith, len))) in
    IfErr-weaker c.split_items.result _ _ (λ error has.
    cause_weaker error (g.P.Pages.faults c.args.pages.now) (g.P.Pages.faults c.args.pages.now) (g.P.Pages.faults c.split_items.new.pages) (g.P.Pages.faults c.split_items.new.pages)
    _ _ _ _ _ _ (omega arith) (omega arith)
    (λ at expected found refused tells free frees low can. refused tells free frees low (let full = c.in-None.ensures.none (omega (arith, len)) in omega (arith, full, all)) can)
    (λ n space. space) (λ m. m) has)
    c.split_items.ensures.cause
