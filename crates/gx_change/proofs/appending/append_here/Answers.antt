use Rattle.std.proofs.Common.{◌≡◌, ◌+◌, ◌^◌, ◌≤◌, ℕ, ◌∷◌, ◌++◌, length, take, sym, ap, arith}
use Rattle.std.proofs.lemmas.List.{length-take-le}
use Rattle.std.proofs.lemmas.Result.{err_from_is_err_and}
use Rattle.gx_pages.proofs.Footprints.{cause_weaker, keeps_from}
use Rattle.gx_chain.specs.Chains.{pages_of}
use Rattle.gx_chain.proofs.Links.{held_same, last_sound}
use Rattle.gx_heap.specs.declared.heap.Heap.{Heap}
use Rattle.gx_heap.specs.Heaps.{chain_of}
use Rattle.gx_change.proofs.Filling.{filled_last}
use Rattle.gx_change.proofs.appending.append_here.Goals as goal

pub returns-in_err-slots-clause-cause : goal.returns-in_err-slots-clause-cause
returns-in_err-slots-clause-cause g c =
    let p = err_from_is_err_and c.from_residual.result c.from_residual.ensures.1 in
    rw (p.1, p.2)
    (cause_weaker c.in_err-slots.field-0.0 (g.P.Pages.faults c.args.pages.now) (g.P.Pages.faults c.args.pages.now) (g.P.Pages.faults c.fetch_slots.new.pages) (g.P.Pages.faults c.fetch_slots.new.pages)
    _ _ _ _ _ _ (omega arith) (omega arith)
    (λ at expected found broken tells rows feet free held.
    last_sound (g.P.Pages.map c.args.pages.now) (g.P.Pages.count c.args.pages.now) 2 (chain_of c.args.heap.now) held.links held.held.held (λ some below bytes is. broken some below tells bytes is))
    (λ n no. absurd no) (λ no. absurd no) c.in_err-slots.ensures.cause)

pub returns-clause-added : goal.returns-clause-added
returns-clause-added g c = λ tells stored feet free held.
    let mid = c.fetch_slots.new.pages in
    let heap = c.args.heap.now in
    let n = c.in-Ok.n in
    let fits : heap.next + length c.args.rows.now ≤ 2 ^ 48 = c.requires in
    let within : n ≤ length c.args.rows.now = c.in-Ok.ensures.within in
    let long : length (take n c.args.rows.now) ≡ n = length-take-le n c.args.rows.now within in
    let longer : ℕ → Heap = λ k. record { first = heap.first; last = heap.last; next = heap.next + k } in
    filled_last g.P.Pages c.args.pages.now c.put_slots.new.pages heap (longer n) (take n c.args.rows.now) c.in_ok-slots.slots c.fill.new.slots stored feet free held
    (omega (arith, long, within, fits)) (c.in_ok-slots.ensures.one tells) c.in-Ok.ensures.filled
    (λ front back items there is.
    let then = c.in_ok-put_slots.ensures.held tells (chain_of heap) front back items free
    (held_same g.P.Pages c.args.pages.now mid c.fill.new.slots.kind (chain_of heap) (front ++ (heap.last, items) ∷ back) free c.in_ok-slots.ensures.map c.in_ok-slots.ensures.count there) is in (
      then.0,
      keeps_from g.P.Pages c.args.pages.now mid c.put_slots.new.pages (pages_of (front ++ (heap.last, items) ∷ back)) free
          (pages_of (front ++ (heap.last, c.fill.new.slots.items) ∷ back)) free c.in_ok-slots.ensures.map c.in_ok-slots.ensures.count then.1,
    ))
    (ap longer (sym long))
