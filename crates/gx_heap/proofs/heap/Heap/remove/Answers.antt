use Rattle.std.proofs.Common.{◌≡◌, ◌<◌, rules, List, [], ◌∷◌, ◌++◌, length, refl, sym, ◌∙◌, ap, subst, append_assoc, append-nil, arith}
use Rattle.std.proofs.lemmas.Bool.{eqb-true}
use Rattle.std.proofs.lemmas.Result.{err_from_is_err_and}
use Rattle.gx_pages.specs.declared.row.RowRef.{RowRef}
use Rattle.gx_pages.specs.Rows.{IsRising}
use Rattle.gx_pages.proofs.Footprints.{cause_weaker, keeps_join, keeps_none, quiet_join, quiet_none}
use Rattle.gx_heap.specs.Heaps.{Row, AreRows, HoldsHeap, runs, without}
use Rattle.gx_heap.proofs.Rows.{rising_right, without_join}
use Rattle.gx_heap.proofs.Runs.{some_runs}
use Rattle.gx_heap.proofs.heap.Heap.remove.Goals as goal

-- nothing is left of a list without elements
none_left : (rows : List RowRef) → length rows ≡ 0 → rows ≡ []
none_left [] none = refl
none_left (row ∷ rows) none = absurd (omega (arith, none))

pub loop-rest-init : goal.loop-rest-init
loop-rest-init g c =
    let value = c.as_slice-rest.ensures.value in
    record {
      removed = λ tells all feet free held are.
          ([], sym value, held, keeps_none g.P.Pages c.args.pages.now feet free held.held.frees, subst (λ (l : List RowRef). AreRows l all) (sym value) are);
      count = refl;
      ticks = omega arith;
      most = (let same = ap (λ (l : List RowRef). length l) value in omega (arith, same));
      fetches = (let same = ap (λ (l : List RowRef). runs l) value in omega (arith, same));
      quiet = quiet_none g.P.Pages g.met.P.Pages.follows_itself c.args.pages.now;
    }

pub loop-rest-preserved : goal.loop-rest-preserved
loop-rest-preserved g c = record {
  removed = λ tells all feet free held are.
      let before = c.loop-rest.invariant.removed tells all feet free held are in
      let rising = rising_right before.0 c.loop-rest.rest.now (subst (λ (l : List RowRef). IsRising l) before.1 c.as_slice-rest.ensures.rising) in
      let step = c.in_ok-rest.ensures.removed tells c.args.self.now (without before.0 all) feet free before.2 rising before.4 in
      let join = without_join before.0 step.0 all in (
        before.0 ++ step.0,
        before.1 ∙ ap (λ (l : List RowRef). before.0 ++ l) step.1 ∙ sym (append_assoc before.0 step.0 c.in_ok-rest.rest.now),
        subst (λ (l : List Row). HoldsHeap g.P.Pages c.remove_run.new.pages c.args.self.now l feet free) (sym join) step.2,
        keeps_join g.P.Pages c.args.pages.now c.loop-rest.pages c.remove_run.new.pages feet free feet free feet free before.3 step.3,
        subst (λ (l : List Row). AreRows c.in_ok-rest.rest.now l) (sym join) step.4,
      );
  count = c.in_ok-rest.ensures.count ∙ c.loop-rest.invariant.count;
  ticks = (let before = c.loop-rest.invariant.ticks in let here = c.in_ok-rest.ensures.ticks in omega (arith, before, here));
  most = (let before = c.loop-rest.invariant.most in let here = c.in_ok-rest.ensures.most in let fewer = c.in_ok-rest.ensures.fewer in omega (arith, before, here, fewer));
  fetches = (let before = c.loop-rest.invariant.fetches in let here = c.in_ok-rest.ensures.fetches in let run = c.in_ok-rest.ensures.run in omega (arith, before, here, run));
  quiet = quiet_join g.P.Pages g.met.P.Pages.follows_on c.args.pages.now c.loop-rest.pages c.remove_run.new.pages c.loop-rest.invariant.quiet c.in_ok-rest.ensures.quiet;
}

pub returns-in_err-rest-clause-cause : goal.returns-in_err-rest-clause-cause
returns-in_err-rest-clause-cause g c =
    let p = err_from_is_err_and c.from_residual.result c.from_residual.ensures.1 in
    rw (p.1, p.2)
    (cause_weaker c.in_err-rest.field-0.0 (g.P.Pages.faults c.args.pages.now) (g.P.Pages.faults c.loop-rest.pages) (g.P.Pages.faults c.remove_run.new.pages) (g.P.Pages.faults c.remove_run.new.pages)
    _ _ _ _ _ _ (let q = c.loop-rest.invariant.quiet.faults in omega (arith, q)) (omega arith)
    (λ at expected found broken tells all feet free held are.
    let before = c.loop-rest.invariant.removed tells all feet free held are in
    let rising = rising_right before.0 c.loop-rest.rest.now (subst (λ (l : List RowRef). IsRising l) before.1 c.as_slice-rest.ensures.rising) in
    broken tells c.args.self.now (without before.0 all) feet free before.2 rising before.4)
    (λ n none. absurd none) (λ memory. memory) c.in_err-rest.ensures.cause)

pub returns-clause-removed : goal.returns-clause-removed
returns-clause-removed g c = λ tells all feet free held are.
    let before = c.loop-rest.invariant.removed tells all feet free held are in
    let none : c.loop-rest.rest.now ≡ [] = none_left c.loop-rest.rest.now (let test = c.loop-rest-test.false in let is = c.is_empty.ensures in eqb-true (length c.loop-rest.rest.now) 0 (sym is ∙ test)) in
    let run : c.args.rows.now ≡ before.0 = before.1 ∙ ap (λ (l : List RowRef). before.0 ++ l) none ∙ append-nil before.0 in
    (subst (λ (l : List RowRef). HoldsHeap g.P.Pages c.loop-rest.pages c.args.self.now (without l all) feet free) (sym run) before.2, before.3)

pub returns-in_err-rest-clause-fetches : goal.returns-in_err-rest-clause-fetches
returns-in_err-rest-clause-fetches g c =
    let before = c.loop-rest.invariant.fetches in
    let here = c.in_err-rest.ensures.fetches in
    let filled : 0 < length c.loop-rest.rest.now = search rules in
    let some = some_runs c.loop-rest.rest.now filled in
    omega (arith, before, here, some)
