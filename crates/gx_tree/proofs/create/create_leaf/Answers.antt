use Rattle.std.proofs.Common.{◌+◌, ◌≤◌, ◌<◌, refl, sym, ◌∙◌, ap, subst, arith}
use Rattle.std.proofs.lemmas.Result.{err_from_is_err_and}
use Rattle.gx_pages.proofs.Footprints.{cause_weaker, starts_sound, takes_at}
use Rattle.gx_slot.specs.Slots.{Slots, Fits, spelling}
use Rattle.gx_tree.proofs.Making.{made}
use Rattle.gx_tree.proofs.create.create_leaf.Goals as goal

pub returns-in_err-root-clause-cause : goal.returns-in_err-root-clause-cause
returns-in_err-root-clause-cause g c =
    let p = err_from_is_err_and c.from_residual.result c.from_residual.ensures.1 in
    rw (p.1, p.2)
    (cause_weaker c.in_err-root.field-0.0 (g.P.Pages.faults c.args.pages.now) (g.P.Pages.faults c.args.pages.now) (g.P.Pages.faults c.take.new.self) (g.P.Pages.faults c.take.new.self)
    _ _ _ _ _ _ (omega arith) (omega arith)
    (λ at expected found broken tells free list. starts_sound (g.P.Pages.map c.args.pages.now) (g.P.Pages.count c.args.pages.now) free (broken tells) list)
    (λ n space. space) (λ no. no) c.in_err-root.ensures.cause)

pub returns-clause-made : goal.returns-clause-made
returns-clause-made g c = λ tells kind items free is.
    made g.P.Pages c.args.pages.now c.put.new.self kind c.in_ok-root.root items (g.P.Pages.map c.take.new.self) c.page.result.now
    (c.page.ensures.spelled ∙ ap (λ (s : Slots). spelling s) is) (subst (λ (s : Slots). Fits s) is c.page.ensures.fits)
    (let below = c.in_ok-root.ensures.below in omega (arith, below, c.in_ok-put.ensures.count)) (let grows = c.in_ok-root.ensures.grows in omega (arith, grows, c.in_ok-put.ensures.count)) (c.in_ok-root.ensures.header tells) (c.in_ok-put.ensures.map tells)
    (takes_at (g.P.Pages.map c.args.pages.now) (g.P.Pages.map c.args.pages.now) (g.P.Pages.map c.take.new.self) (g.P.Pages.count c.args.pages.now) (g.P.Pages.count c.args.pages.now)
    (g.P.Pages.count c.take.new.self) (g.P.Pages.count c.put.new.self) c.in_ok-root.root refl refl (sym c.in_ok-put.ensures.count) (c.in_ok-root.ensures.taken tells)) free
