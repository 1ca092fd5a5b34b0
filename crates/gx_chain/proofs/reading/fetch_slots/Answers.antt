use Rattle.std.proofs.Common.{◌≡◌, subst, ℕ, List, arith, ap, sym, ◌∙◌, Some, slice_index}
use Rattle.std.proofs.lemmas.Result.{err_from_is_err_and}
use Rattle.gx_slot.specs.Slots.{IsSlotPage, Slots}
use Rattle.gx_slot.proofs.ReadFacts.{kind_read}
use Rattle.gx_pages.proofs.Footprints.{cause_weaker}
use Rattle.gx_chain.specs.Chains.{first_of, slots}
use Rattle.gx_chain.proofs.Links.{broken_cause, linked_mid, one_spelled}
use Rattle.gx_chain.proofs.reading.fetch_slots.Goals as goal

pub returns-in_err-fetch-clause-cause : goal.returns-in_err-fetch-clause-cause
returns-in_err-fetch-clause-cause g c =
    let p = err_from_is_err_and c.from_residual.result c.from_residual.ensures.1 in
    rw (p.1, p.2)
    (cause_weaker c.in_err-fetch.field-0.0 (g.P.Pages.faults c.args.pages.now) (g.P.Pages.faults c.args.pages.now) (g.P.Pages.faults c.fetch.new.self) (g.P.Pages.faults c.fetch.new.self)
    _ _ _ _ _ _ (omega arith) (omega arith) (λ at expected found broken some below tells bytes is spelled. let none = (broken.1 below).2 tells in cc) (λ n no. absurd no) (λ no. absurd no) c.in_err-fetch.ensures.cause)

pub returns-in_err-slots-clause-cause : goal.returns-in_err-slots-clause-cause
returns-in_err-slots-clause-cause g c =
    let p = err_from_is_err_and c.from_residual-in_err-slots.result c.from_residual-in_err-slots.ensures.1 in
    rw (p.1, p.2)
    (broken_cause c.in_err-slots.field-0.0 c.args.page _ _ _ _ _ c.in_err-slots.ensures.cause
    (λ at x y some below tells bytes is spelled.
    let same : bytes ≡ c.fetch.new.into = (let there = c.in_ok-fetch.ensures.bytes tells in cc) in
    c.in_err-slots.ensures.err (subst (λ (l : List ℕ). IsSlotPage l c.args.kind) same spelled)))

pub returns-clause-other : goal.returns-clause-other
returns-clause-other g c = λ other.
    let first : slice_index c.fetch.new.into 0 ≡ c.args.kind =
    sym (kind_read c.fetch.new.into)
    ∙ ap (λ (s : Slots). s.kind) (c.one_page.ensures c.fetch.new.into c.in_ok-slots.slots c.in_ok-slots.ensures.ok.0 c.page-page.ensures.fits)
    ∙ c.in_ok-slots.ensures.ok.1 in
    let heap = c.in_ok-fetch.ensures.heap in
    grind (arith, heap, first, other)

pub returns-clause-link : goal.returns-clause-link
returns-clause-link g c = λ tells front back items linked.
    let link = (linked_mid (g.P.Pages.map c.args.pages.now) c.args.kind front (c.args.page, items) back linked).0 in
    one_spelled (g.P.Pages.map c.args.pages.now c.args.page) c.in_ok-slots.slots (slots c.args.kind (first_of back) items)
    (c.in_ok-fetch.ensures.bytes tells ∙ ap (λ (l : List ℕ). Some l) c.in_ok-slots.ensures.ok.0) c.page-page.ensures.fits link.is link.fits
