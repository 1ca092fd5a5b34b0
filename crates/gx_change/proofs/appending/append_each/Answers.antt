use Rattle.std.proofs.Common.{◌≡◌, ◌+◌, ◌<◌, ℕ, List, [], ◌∷◌, ◌++◌, length, take, refl, sym, ◌∙◌, ap, subst, append_assoc, append-nil, arith}
use Rattle.std.proofs.lemmas.List.{length-take-le, take_all, take_more}
use Rattle.std.proofs.lemmas.Result.{err_from_is_err_and}
use Rattle.gx_pages.proofs.Footprints.{cause_weaker, keeps_join, keeps_none, quiet_join, quiet_none}
use Rattle.gx_heap.specs.Heaps.{HoldsHeap, Row}
use Rattle.gx_change.specs.Appended.{AreNumbered}
use Rattle.gx_change.proofs.NewRows.{numbered_more}
use Rattle.gx_change.proofs.appending.append_each.Goals as goal

pub loop-row-init : goal.loop-row-init
loop-row-init g c = record {
  added = λ tells stored feet free held. (
    [],
    feet,
    free,
    subst (λ (rows : List Row). HoldsHeap g.P.Pages c.args.pages.now c.args.heap.now rows feet free) (sym (append-nil stored)) held,
    keeps_none g.P.Pages c.args.pages.now feet free held.held.frees,
    refl,
  );
  next = omega arith;
  count = omega arith;
  ticks = omega arith;
  most = omega arith;
  quiet = quiet_none g.P.Pages g.met.P.Pages.follows_itself c.args.pages.now;
}

pub returns-in_err-append-clause-cause : goal.returns-in_err-append-clause-cause
returns-in_err-append-clause-cause g c =
    let p = err_from_is_err_and c.from_residual.result c.from_residual.ensures.1 in
    let before = c.loop-row.invariant in
    let below = c.loop-row-test.true in
    rw (p.1, p.2)
    (cause_weaker c.in_err-append.field-0.0 (g.P.Pages.faults c.args.pages.now) (g.P.Pages.faults c.loop-row.pages) (g.P.Pages.faults c.append.new.pages) (g.P.Pages.faults c.append.new.pages)
    _ _ _ _ _ _ (let q = before.quiet.faults in omega (arith, q)) (omega arith)
    (λ at expected found broken tells rows feet free held.
    let now = before.added tells rows feet free held in
    broken tells (rows ++ now.0) now.1 now.2 now.3)
    (λ count full. (
      omega (arith, below),
      let counted = full.0.counted in
          let one = c.append.ensures.by_one in
          let many = before.count in
          omega (arith, counted, one, many, below),
    ))
    (λ memory. tt) c.in_err-append.ensures.cause)

pub loop-row-preserved : goal.loop-row-preserved
loop-row-preserved g c =
    let before = c.loop-row.invariant in
    let here = c.in_ok-append.ensures in
    let i = c.loop-row.row-index in
    let below : i < length c.args.rows.now = c.loop-row-test.true in
    let cut : take (i + 1) c.args.rows.now ≡ take i c.args.rows.now ++ c.as_slice.result.now ∷ [] =
    take_more c.args.rows.now i c.row-item.result below ∙ ap (λ (bytes : List ℕ). take i c.args.rows.now ++ bytes ∷ []) (sym c.row-item.is ∙ sym c.as_slice.ensures) in
    let long = length-take-le i c.args.rows.now (omega (arith, below)) in
    record {
      added = λ tells stored feet free held.
          let first = before.added tells stored feet free held in
          let now = here.added tells (stored ++ first.0) first.1 first.2 first.3 in
          let row : Row = (c.in_ok-append.field-0, c.as_slice.result.now) in (
            first.0 ++ row ∷ [],
            now.0,
            now.1,
            subst (λ (rows : List Row). HoldsHeap g.P.Pages c.append.new.pages c.append.new.self rows now.0 now.1) (append_assoc stored first.0 (row ∷ [])) now.2,
            keeps_join g.P.Pages c.args.pages.now c.loop-row.pages c.append.new.pages feet free first.1 first.2 now.0 now.1 first.4 now.3,
            subst (λ (l : List (List ℕ)). AreNumbered c.args.heap.now.next l (first.0 ++ row ∷ [])) (sym cut)
                (numbered_more c.args.heap.now.next (take i c.args.rows.now) c.as_slice.result.now first.0 row first.5
                (let number = here.number in let next = before.next in omega (arith, number, next, long)) refl),
          );
      next = (let next = here.next in let was = before.next in omega (arith, next, was));
      count = (let one = here.by_one in let many = before.count in omega (arith, one, many));
      ticks = (let one = here.ticks in let many = before.ticks in omega (arith, one, many));
      most = (let one = here.most in let many = before.most in omega (arith, one, many));
      quiet = quiet_join g.P.Pages g.met.P.Pages.follows_on c.args.pages.now c.loop-row.pages c.append.new.pages before.quiet here.quiet;
    }

pub returns-clause-added : goal.returns-clause-added
returns-clause-added g c = λ tells stored feet free held.
    let all = c.loop-row.invariant.added tells stored feet free held in
    let end = c.loop-row-test.false in (
      all.0,
      all.1,
      all.2,
      all.3,
      all.4,
      subst (λ (l : List (List ℕ)). AreNumbered c.args.heap.now.next l all.0) (take_all c.loop-row.row-index c.args.rows.now (omega (arith, end))) all.5,
    )
