use Rattle.std.proofs.Common.{◌≡◌, ◌≤◌, ℕ, List, ◌++◌, length, take, drop, ◌∙◌, ap, subst, append_assoc, arith}
use Rattle.std.proofs.lemmas.List.{length-drop, length-take-le, take-append-drop}
use Rattle.gx_pages.proofs.Footprints.{keeps_join}
use Rattle.gx_heap.specs.Heaps.{HoldsHeap, Row}
use Rattle.gx_change.specs.Appended.{AreNumbered}
use Rattle.gx_change.proofs.Filling.{cause_behind, numbered_join, on_ok}
use Rattle.gx_change.proofs.appending.append_rows.Goals as goal

pub returns-clause-added : goal.returns-clause-added
returns-clause-added g c =
    on_ok c.append_each.result _ _ (λ added tells stored feet free held.
    let done = c.in_ok-done.done in
    let rows = c.args.rows.now in
    let rest = c.split_at.result.1.now in
    let back : rest ≡ drop done rows = c.split_at.ensures.back in
    let within : done ≤ length rows = c.in_ok-done.ensures.within in
    let long : length (take done rows) ≡ done = length-take-le done rows within in
    let whole : take done rows ++ rest ≡ rows = ap (λ (l : List (List ℕ)). take done rows ++ l) back ∙ take-append-drop done rows in
    let first = c.in_ok-done.ensures.added tells stored feet free held in
    let now = added tells (stored ++ first.0) first.1 first.2 first.3 in (
      first.0 ++ now.0,
      now.1,
      now.2,
      subst (λ (all : List Row). HoldsHeap g.P.Pages c.append_each.new.pages c.append_each.new.heap all now.1 now.2) (append_assoc stored first.0 now.0) now.3,
      keeps_join g.P.Pages c.args.pages.now c.append_runs.new.pages c.append_each.new.pages feet free first.1 first.2 now.1 now.2 first.4 now.4,
      subst (λ (l : List (List ℕ)). AreNumbered c.args.heap.now.next l (first.0 ++ now.0)) whole
          (numbered_join c.args.heap.now.next c.append_runs.new.heap.next (take done rows) rest first.0 now.0 (let next = c.in_ok-done.ensures.next in omega (arith, next, long)) first.5 now.5),
    )) c.append_each.ensures.added

pub returns-clause-cause : goal.returns-clause-cause
returns-clause-cause g c =
    let within = c.in_ok-done.ensures.within in
    let left = ap (λ (l : List (List ℕ)). length l) c.split_at.ensures.back ∙ length-drop c.in_ok-done.done c.args.rows.now in
    cause_behind c.append_each.result (g.P.Pages.faults c.args.pages.now) (g.P.Pages.faults c.append_runs.new.pages) (g.P.Pages.faults c.append_each.new.pages) _ _ _ _
    (let q = c.in_ok-done.ensures.quiet.faults in omega (arith, q))
    (λ at expected found broken tells rows feet free held. let now = c.in_ok-done.ensures.added tells rows feet free held in broken tells (rows ++ now.0) now.1 now.2 now.3)
    (λ count full. (
      let some = full.0 in omega (arith, some, left, within),
      let counted = full.1 in
          let many = c.in_ok-done.ensures.by_each in
          omega (arith, counted, many, left, within),
    )) c.append_each.ensures.cause
