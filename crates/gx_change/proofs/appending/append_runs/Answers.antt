use Rattle.std.proofs.Common.{◌≡◌, ◌+◌, ◌-◌, ◌≤◌, ◌<◌, ℕ, List, [], ◌++◌, length, take, drop, sym, ◌∙◌, ap, subst, append_assoc, append-nil, arith}
use Rattle.std.proofs.lemmas.List.{length-drop, length-take-le}
use Rattle.std.proofs.lemmas.Result.{err_from_is_err_and}
use Rattle.gx_pages.proofs.Footprints.{cause_weaker, keeps_join, quiet_join}
use Rattle.gx_heap.specs.Heaps.{HoldsHeap, Row}
use Rattle.gx_change.specs.Appended.{AreNumbered}
use Rattle.gx_change.proofs.Filling.{numbered_join, take_split}
use Rattle.gx_change.proofs.appending.append_runs.Goals as goal

pub returns-in_err-n-clause-cause : goal.returns-in_err-n-clause-cause
returns-in_err-n-clause-cause g c =
    let p = err_from_is_err_and c.from_residual.result c.from_residual.ensures.1 in
    let before = c.loop-done.invariant in
    let below = c.loop-done-test.true in
    let left = ap (λ (l : List (List ℕ)). length l) c.split_at.ensures.back ∙ length-drop c.loop-done.done c.args.rows.now in
    rw (p.1, p.2)
    (cause_weaker c.in_err-n.field-0.0 (g.P.Pages.faults c.args.pages.now) (g.P.Pages.faults c.loop-done.pages) (g.P.Pages.faults c.append_run.new.pages) (g.P.Pages.faults c.append_run.new.pages)
    _ _ _ _ _ _ (let q = before.quiet.faults in omega (arith, q)) (omega arith)
    (λ at expected found broken tells rows feet free held. let now = before.added tells rows feet free held in broken tells (rows ++ now.0) now.1 now.2 now.3)
    (λ count full. (omega (arith, below), let counted = full.1 in let many = before.count in omega (arith, counted, many, below, left)))
    (λ memory. tt) c.in_err-n.ensures.cause)

pub returns-then-n-eq0-clause-added : goal.returns-then-n-eq0-clause-added
returns-then-n-eq0-clause-added g c = λ tells stored feet free held.
    let done = c.loop-done.done in
    let first = c.loop-done.invariant.added tells stored feet free held in
    let now = c.in_ok-n.ensures.added tells (stored ++ first.0) first.1 first.2 first.3 in
    let none : c.in_ok-n.n ≡ 0 = c.if-n-eq0.true in
    let rest = c.split_at.result.1.now in
    let empty : now.0 ≡ [] = subst (λ (k : ℕ). AreNumbered c.loop-done.heap.next (take k rest) now.0) none now.5 in (
      first.0,
      now.1,
      now.2,
      subst (λ (all : List Row). HoldsHeap g.P.Pages c.append_run.new.pages c.append_run.new.heap all now.1 now.2)
          (ap (λ (l : List Row). (stored ++ first.0) ++ l) empty ∙ append-nil (stored ++ first.0)) now.3,
      keeps_join g.P.Pages c.args.pages.now c.loop-done.pages c.append_run.new.pages feet free first.1 first.2 now.1 now.2 first.4 now.4,
      first.5,
    )

pub loop-done-preserved : goal.loop-done-preserved
loop-done-preserved g c =
    let before = c.loop-done.invariant in
    let here = c.in_ok-n.ensures in
    let done = c.loop-done.done in
    let n = c.in_ok-n.n in
    let rows = c.args.rows.now in
    let rest = c.split_at.result.1.now in
    let back : rest ≡ drop done rows = c.split_at.ensures.back in
    let left : length rest ≡ length rows - done = ap (λ (l : List (List ℕ)). length l) back ∙ length-drop done rows in
    let within : n ≤ length rest = here.within in
    let below : done < length rows = c.loop-done-test.true in
    let some = c.if-n-eq0.false in
    let long : length (take done rows) ≡ done = length-take-le done rows (omega (arith, below)) in
    let split : take (done + n) rows ≡ take done rows ++ take n rest = take_split done n rows ∙ ap (λ (l : List (List ℕ)). take done rows ++ take n l) (sym back) in
    record {
      within = omega (arith, within, left, below);
      added = λ tells stored feet free held.
          let first = before.added tells stored feet free held in
          let now = here.added tells (stored ++ first.0) first.1 first.2 first.3 in (
            first.0 ++ now.0,
            now.1,
            now.2,
            subst (λ (all : List Row). HoldsHeap g.P.Pages c.append_run.new.pages c.append_run.new.heap all now.1 now.2) (append_assoc stored first.0 now.0) now.3,
            keeps_join g.P.Pages c.args.pages.now c.loop-done.pages c.append_run.new.pages feet free first.1 first.2 now.1 now.2 first.4 now.4,
            subst (λ (l : List (List ℕ)). AreNumbered c.args.heap.now.next l (first.0 ++ now.0)) (sym split)
                (numbered_join c.args.heap.now.next c.loop-done.heap.next (take done rows) (take n rest) first.0 now.0 (let next = before.next in omega (arith, next, long)) first.5 now.5),
          );
      next = (let next = here.next in let was = before.next in omega (arith, next, was));
      count = (let one = here.by_each in let many = before.count in omega (arith, one, many));
      ticks = (let one = here.ticks in let many = before.ticks in omega (arith, one, many));
      most = (let one = here.most (omega (arith, some)) in let many = before.most in omega (arith, one, many));
      quiet = quiet_join g.P.Pages g.met.P.Pages.follows_on c.args.pages.now c.loop-done.pages c.append_run.new.pages before.quiet here.quiet;
    }
