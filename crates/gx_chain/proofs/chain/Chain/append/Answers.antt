use Rattle.std.proofs.Common.{◌∷◌, ◌++◌, length, Some, sym, ◌∙◌, ap, subst, arith}
use Rattle.std.proofs.lemmas.Result.{err_from_is_err_and}
use Rattle.gx_words.specs.PageMap.{PageMap, with_page}
use Rattle.gx_pages.specs.Frees.{KeepsHeader}
use Rattle.gx_pages.proofs.Footprints.{cause_weaker, free_list_at, keeps_from, starts_sound, takes_at}
use Rattle.gx_slot.specs.Slots.{Slots, Fits, spelling, taken, with_item}
use Rattle.gx_chain.specs.Chains.{pages_of, slots}
use Rattle.gx_chain.proofs.AddHere.{added_here}
use Rattle.gx_chain.proofs.AddBehind.{added_behind}
use Rattle.gx_chain.proofs.Links.{held_same, last_sound, linked_last}
use Rattle.gx_chain.proofs.chain.Chain.append.Goals as goal

pub returns-in_err-slots-clause-cause : goal.returns-in_err-slots-clause-cause
returns-in_err-slots-clause-cause g c =
    let p = err_from_is_err_and c.from_residual.result c.from_residual.ensures.1 in
    rw (p.1, p.2)
    (cause_weaker c.in_err-slots.field-0.0 (g.P.Pages.faults c.args.pages.now) (g.P.Pages.faults c.args.pages.now) (g.P.Pages.faults c.fetch_slots.new.pages) (g.P.Pages.faults c.fetch_slots.new.pages)
    _ _ _ _ _ _ (omega arith) (omega arith)
    (λ at expected found broken tells links free held.
    last_sound (g.P.Pages.map c.args.pages.now) (g.P.Pages.count c.args.pages.now) c.args.kind c.args.self.now links held.held (λ some below bytes is. broken some below tells bytes is))
    (λ n no. absurd no) (λ no. absurd no) c.in_err-slots.ensures.cause)

pub returns-in-Ok-clause-added : goal.returns-in-Ok-clause-added
returns-in-Ok-clause-added g c = λ tells links free held.
    let mid = c.fetch_slots.new.pages in
    added_here g.P.Pages c.args.pages.now c.put_slots.new.pages c.args.kind c.args.self.now free c.args.item.now c.in-Ok.slot c.in_ok-slots.slots c.add.new.self
    (c.in_ok-slots.ensures.one tells) c.in-Ok.ensures.added c.in_ok-put_slots.ensures.fits c.in-Ok.ensures.place
    (λ front back items free held is.
    let then = c.in_ok-put_slots.ensures.held tells c.args.self.now front back items free
    (held_same g.P.Pages c.args.pages.now mid c.add.new.self.kind c.args.self.now (front ++ (c.args.self.now.last, items) ∷ back) free c.in_ok-slots.ensures.map c.in_ok-slots.ensures.count held) is in (
      then.0,
      keeps_from g.P.Pages c.args.pages.now mid c.put_slots.new.pages (pages_of (front ++ (c.args.self.now.last, items) ∷ back)) free
          (pages_of (front ++ (c.args.self.now.last, c.add.new.self.items) ∷ back)) free c.in_ok-slots.ensures.map c.in_ok-slots.ensures.count then.1,
    ))
    links held

pub returns-in_err-page-clause-cause : goal.returns-in_err-page-clause-cause
returns-in_err-page-clause-cause g c =
    let p = err_from_is_err_and c.from_residual-in_err-page.result c.from_residual-in_err-page.ensures.1 in
    rw (p.1, p.2)
    (cause_weaker c.in_err-page.field-0.0 (g.P.Pages.faults c.args.pages.now) (g.P.Pages.faults c.fetch_slots.new.pages) (g.P.Pages.faults c.take.new.self) (g.P.Pages.faults c.take.new.self)
    _ _ _ _ _ _ (let q = c.in_ok-slots.ensures.quiet.faults in omega arith) (omega arith)
    (λ at expected found broken tells links free held.
    starts_sound (g.P.Pages.map c.fetch_slots.new.pages) (g.P.Pages.count c.fetch_slots.new.pages) free (broken tells)
    (free_list_at (g.P.Pages.map c.fetch_slots.new.pages) (g.P.Pages.map c.args.pages.now) (g.P.Pages.count c.fetch_slots.new.pages) (g.P.Pages.count c.args.pages.now) free
    c.in_ok-slots.ensures.map c.in_ok-slots.ensures.count held.frees))
    (λ n space. (
      space,
      λ tells front items held room.
          let link = linked_last (g.P.Pages.map c.args.pages.now) c.args.kind front (c.args.self.now.last, items) held.linked in
          let same = ap (λ (s : Slots). taken s.items) (c.in_ok-slots.ensures.one tells (slots c.args.kind 0 items) link.is link.fits) in
          let refused = c.in_default.ensures.refused in
          omega (arith, room, same, refused.0, refused.1),
    ))
    (λ no. no) c.in_err-page.ensures.cause)

pub returns-clause-added : goal.returns-clause-added
returns-clause-added g c = λ tells.
    let mid = c.fetch_slots.new.pages in
    let added = c.in-Ok-add.ensures.added ∙ ap (λ (s : Slots). with_item s (Some c.args.item.now)) c.new-fresh.ensures in
    let count = c.in_ok-put-2.ensures.count ∙ c.in_ok-put.ensures.count in
    let bound = g.met.P.Pages.bounded c.take.new.self in
    let refused = c.in_default.ensures.refused in
    added_behind g.P.Pages c.args.pages.now c.put-2.new.self c.args.kind c.args.self.now c.saturating_add-self.result c.args.item.now c.in_ok-page.page c.in-Ok-add.slot c.in_ok-slots.slots
    (g.P.Pages.map c.take.new.self) c.page.result.now c.page-2.result.now (c.in_ok-slots.ensures.one tells) (let below = c.in_ok-page.ensures.below in omega (arith, below, bound))
    (c.page.ensures.spelled ∙ ap (λ (s : Slots). spelling s) added) (subst (λ (s : Slots). Fits s) added c.page.ensures.fits)
    (c.page-2.ensures.spelled ∙ ap (λ (s : Slots). spelling s) (c.set_next.ensures ∙ ap (λ (s : Slots). record s { next = c.in_ok-page.page }) c.in_default.ensures.err))
    (omega (arith, refused.0, refused.1))
    (let below = c.in_ok-page.ensures.below in omega (arith, below, count))
    (let grows = c.in_ok-page.ensures.grows in omega (arith, grows, count, c.in_ok-slots.ensures.count))
    (subst (λ (m : PageMap). KeepsHeader m (g.P.Pages.map c.take.new.self)) c.in_ok-slots.ensures.map (c.in_ok-page.ensures.header tells))
    (c.in_ok-put-2.ensures.map tells ∙ ap (λ (m : PageMap). with_page m c.args.self.now.last c.page-2.result.now) (c.in_ok-put.ensures.map tells))
    (c.in-Ok-add.ensures.place ∙ ap (λ (s : Slots). length s.items) c.new-fresh.ensures)
    (g.met.P.Pages.bounded c.args.pages.now)
    c.saturating_add-self.ensures
    (takes_at (g.P.Pages.map mid) (g.P.Pages.map c.args.pages.now) (g.P.Pages.map c.take.new.self) (g.P.Pages.count mid) (g.P.Pages.count c.args.pages.now)
    (g.P.Pages.count c.take.new.self) (g.P.Pages.count c.put-2.new.self) c.in_ok-page.page c.in_ok-slots.ensures.map c.in_ok-slots.ensures.count (sym count) (c.in_ok-page.ensures.taken tells))
