use Rattle.std.proofs.Common.{◌≡◌, ◌≢◌, ◌<◌, ℕ, List, Some, sym, subst, arith}
use Rattle.std.proofs.lemmas.Result.{err_from_is_err_and}
use Rattle.gx_pages.proofs.Footprints.{cause_weaker}
use Rattle.gx_slot.specs.Slots.{IsSlotPage}
use Rattle.gx_heap.proofs.Removes.{page_sound}
use Rattle.gx_heap.proofs.heap.Heap.page_of.Goals as goal

pub returns-in_err-slots-clause-cause : goal.returns-in_err-slots-clause-cause
returns-in_err-slots-clause-cause g c =
    let p = err_from_is_err_and c.from_residual.result c.from_residual.ensures.1 in
    rw (p.1, p.2)
    (cause_weaker c.in_err-slots.field-0.0 (g.P.Pages.faults c.args.pages.now) (g.P.Pages.faults c.args.pages.now) (g.P.Pages.faults c.fetch_slots.new.pages) (g.P.Pages.faults c.fetch_slots.new.pages)
    _ _ _ _ _ _ (omega arith) (omega arith)
    (λ at expected found broken tells rows feet free held on.
    let B : ℕ → Type 0 = λ n. n ≢ 0 → n < g.P.Pages.count c.args.pages.now → (bytes : List ℕ) → g.P.Pages.map c.args.pages.now n ≡ Some bytes → ¬ IsSlotPage bytes 2 in
    page_sound g.P.Pages c.args.pages.now c.args.self.now rows feet free held on.0 on.1 (subst B (sym on.2) (λ some below bytes eq. broken some below tells bytes eq)))
    (λ n none. absurd none) (λ none. none) c.in_err-slots.ensures.cause)
