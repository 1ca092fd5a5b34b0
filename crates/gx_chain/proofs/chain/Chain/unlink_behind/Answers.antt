use Rattle.std.proofs.Common.{refl, ◌∙◌, ap, subst, arith}
use Rattle.std.proofs.lemmas.Result.{err_from_is_err_and}
use Rattle.gx_words.specs.PageMap.{PageMap, with_page}
use Rattle.gx_pages.proofs.Footprints.{cause_weaker, gives_at}
use Rattle.gx_slot.specs.Slots.{Slots, Fits, spelling}
use Rattle.gx_chain.proofs.Links.{mid_sound}
use Rattle.gx_chain.proofs.Unlinks.{unlinked_inner, unlinked_to}
use Rattle.gx_chain.proofs.chain.Chain.unlink_behind.Goals as goal

pub returns-in_err-slots-clause-cause : goal.returns-in_err-slots-clause-cause
returns-in_err-slots-clause-cause g c =
    let p = err_from_is_err_and c.from_residual.result c.from_residual.ensures.1 in
    rw (p.1, p.2)
    (cause_weaker c.in_err-slots.field-0.0 (g.P.Pages.faults c.args.pages.now) (g.P.Pages.faults c.args.pages.now) (g.P.Pages.faults c.fetch_slots.new.pages) (g.P.Pages.faults c.fetch_slots.new.pages)
    _ _ _ _ _ _ (omega arith) (omega arith)
    (λ at expected found broken tells front back others held.
    mid_sound (g.P.Pages.map c.args.pages.now) (g.P.Pages.count c.args.pages.now) c.args.kind c.args.self.now front c.args.before others back held
    (λ some below bytes is. broken some below tells bytes is))
    (λ n no. absurd no) (λ no. absurd no) c.in_err-slots.ensures.cause)

pub returns-clause-unlinked : goal.returns-clause-unlinked
returns-clause-unlinked g c = λ tells goes front back others items free held at.
    let map = c.in_ok-slots.ensures.map in
    let count = c.in_ok-put.ensures.count ∙ c.in_ok-slots.ensures.count in
    unlinked_inner g.P.Pages c.args.pages.now c.give.new.self c.args.kind c.args.self.now c.args.page (g.P.Pages.map c.put.new.self) free (c.in_ok-give.ensures.others tells)
    (c.in_ok-give.ensures.header tells) (c.in_ok-give.ensures.count ∙ count)
    (gives_at (g.P.Pages.map c.put.new.self) (g.P.Pages.map c.put.new.self) (g.P.Pages.map c.give.new.self) (g.P.Pages.count c.put.new.self) (g.P.Pages.count c.args.pages.now) c.args.page refl count
    (c.in_ok-give.ensures.given tells))
    c.args.before c.args.next c.in_ok-slots.slots c.page.result.now (c.in_ok-slots.ensures.one tells) (c.page.ensures.spelled ∙ ap (λ (s : Slots). spelling s) c.set_next.ensures)
    (subst (λ (s : Slots). Fits s) c.set_next.ensures c.page.ensures.fits) (c.in_ok-put.ensures.map tells ∙ ap (λ (m : PageMap). with_page m c.args.before c.page.result.now) map)
    front back others items held at (λ none. goes (at ∙ none))

pub returns-clause-shorter : goal.returns-clause-shorter
returns-clause-shorter g c = λ tells ends front back others items free held at first last most.
    let map = c.in_ok-slots.ensures.map in
    let count = c.in_ok-put.ensures.count ∙ c.in_ok-slots.ensures.count in
    unlinked_to g.P.Pages c.args.pages.now c.give.new.self c.args.kind c.args.self.now c.args.page (g.P.Pages.map c.put.new.self) free (c.in_ok-give.ensures.others tells)
    (c.in_ok-give.ensures.header tells) (c.in_ok-give.ensures.count ∙ count)
    (gives_at (g.P.Pages.map c.put.new.self) (g.P.Pages.map c.put.new.self) (g.P.Pages.map c.give.new.self) (g.P.Pages.count c.put.new.self) (g.P.Pages.count c.args.pages.now) c.args.page refl count
    (c.in_ok-give.ensures.given tells))
    c.args.before c.args.next c.in_ok-slots.slots c.page.result.now (c.in_ok-slots.ensures.one tells) (c.page.ensures.spelled ∙ ap (λ (s : Slots). spelling s) c.set_next.ensures)
    (subst (λ (s : Slots). Fits s) c.set_next.ensures c.page.ensures.fits) (c.in_ok-put.ensures.map tells ∙ ap (λ (m : PageMap). with_page m c.args.before c.page.result.now) map)
    front back others items held at ends first last most
