use Rattle.std.proofs.Common.{◌≡◌, ◌+◌, ◌<◌, ℕ, List, [], ◌∷◌, ◌++◌, length, take, refl, sym, ◌∙◌, ap, subst, append_assoc, arith}
use Rattle.std.proofs.lemmas.List.{length-take-le, take_more}
use Rattle.std.proofs.lemmas.Result.{err_from_is_err_and}
use Rattle.gx_pages.proofs.Footprints.{cause_weaker, keeps_join}
use Rattle.gx_heap.specs.Heaps.{HoldsHeap, Row}
use Rattle.gx_change.specs.Appended.{AreNumbered}
use Rattle.gx_change.proofs.NewRows.{numbered_more}
use Rattle.gx_change.proofs.appending.append_run.Goals as goal

pub returns-then-n-eq0-clause-added : goal.returns-then-n-eq0-clause-added
returns-then-n-eq0-clause-added g c = λ tells stored feet free held. let now = c.in_ok-n.ensures.added tells stored feet free held in (now.0, feet, free, now.1, now.2, now.3)

pub returns-in_err-append-clause-cause : goal.returns-in_err-append-clause-cause
returns-in_err-append-clause-cause g c =
    let p = err_from_is_err_and c.from_residual-in_err-append.result c.from_residual-in_err-append.ensures.1 in
    let below : c.in_ok-n.n < length c.args.rows.now = (let no = c.if-n-rows.false in omega (arith, no)) in
    let faults = c.in_ok-n.ensures.quiet.faults in
    rw (p.1, p.2)
    (cause_weaker c.in_err-append.field-0.0 (g.P.Pages.faults c.args.pages.now) (g.P.Pages.faults c.append_here.new.pages) (g.P.Pages.faults c.append.new.pages) (g.P.Pages.faults c.append.new.pages)
    _ _ _ _ _ _ (omega (arith, faults)) (omega arith)
    (λ at expected found broken tells rows feet free held. let now = c.in_ok-n.ensures.added tells rows feet free held in broken tells (rows ++ now.0) feet free now.1)
    (λ count full. (
      omega (arith, below),
      let counted = full.0.counted in
          let one = c.append.ensures.by_one in
          let same = c.in_ok-n.ensures.count in
          omega (arith, counted, one, same, below),
    ))
    (λ memory. tt) c.in_err-append.ensures.cause)

pub returns-clause-added : goal.returns-clause-added
returns-clause-added g c = λ tells stored feet free held.
    let n = c.in_ok-n.n in
    let rows = c.args.rows.now in
    let below : n < length rows = (let no = c.if-n-rows.false in omega (arith, no)) in
    let cut : take (n + 1) rows ≡ take n rows ++ c.as_slice.result.now ∷ [] =
    take_more rows n c.index-rows-n.result below ∙ ap (λ (bytes : List ℕ). take n rows ++ bytes ∷ []) (sym c.index-rows-n.is ∙ sym c.as_slice.ensures) in
    let long = length-take-le n rows (omega (arith, below)) in
    let first = c.in_ok-n.ensures.added tells stored feet free held in
    let now = c.in_ok-append.ensures.added tells (stored ++ first.0) feet free first.1 in
    let row : Row = (c.in_ok-append.field-0, c.as_slice.result.now) in (
      first.0 ++ row ∷ [],
      now.0,
      now.1,
      subst (λ (all : List Row). HoldsHeap g.P.Pages c.append.new.pages c.append.new.self all now.0 now.1) (append_assoc stored first.0 (row ∷ [])) now.2,
      keeps_join g.P.Pages c.args.pages.now c.append_here.new.pages c.append.new.pages feet free feet free now.0 now.1 first.2 now.3,
      subst (λ (l : List (List ℕ)). AreNumbered c.args.heap.now.next l (first.0 ++ row ∷ [])) (sym cut)
          (numbered_more c.args.heap.now.next (take n rows) c.as_slice.result.now first.0 row first.3
          (let number = c.in_ok-append.ensures.number in let next = c.in_ok-n.ensures.next in omega (arith, number, next, long)) refl),
    )
