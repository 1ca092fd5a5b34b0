use Rattle.std.proofs.Common.{◌≡◌, ◌++◌, List, ℕ, refl, sym, ◌∙◌, ap, subst, arith}
use Rattle.std.proofs.lemmas.Result.{err_from_is_err_and}
use Rattle.gx_pages.proofs.Footprints.{cause_weaker, quiet_join, quiet_none}
use Rattle.gx_heap.specs.Heaps.{Row, HoldsHeap, rows_in, rows_on}
use Rattle.gx_heap.proofs.Finds.{heap_same}
use Rattle.gx_plan.specs.Bounds.{kinds_of}
use Rattle.gx_query.specs.Seen.{IsSeen, AreSeen}
use Rattle.gx_query.specs.Walks.{condition_of}
use Rattle.gx_query.proofs.Feet.{at_start, ends, moved, next, on_page, round, rows_more, whole}
use Rattle.gx_query.proofs.Looking.{break_cause, shown_page, shown_start}
use Rattle.gx_query.proofs.walk.walk_rows.Goals as goal

pub loop-passed-init : goal.loop-passed-init
loop-passed-init g c = record {
  walked = λ tells rows feet free held. (
    at_start g.P.Pages c.args.pages.now c.args.heap.now rows feet free held c.new-trail.result.mark c.new-trail.ensures,
    λ seen are. shown_start (g.V.Visit.after c.args.columns.now) (condition_of c.args.filter.now) (kinds_of c.args.columns.now) c.args.visitor.now (record { rows = 0; selected = 0 }) seen are,
  );
  still = c.requires.fits;
  map = refl;
  count = refl;
  ticks = omega arith;
  most = omega arith;
  quiet = quiet_none g.P.Pages g.met.P.Pages.follows_itself c.args.pages.now;
}

pub returns-then-page-eq0-clause-shown : goal.returns-then-page-eq0-clause-shown
returns-then-page-eq0-clause-shown g c = λ tells rows feet free held seen are.
    let before = c.loop-passed.invariant.walked tells rows feet free held in
    let all : rows_in before.0.front rows ≡ rows =
    ap (λ (l : List ℕ). rows_in l rows) (whole g.P.Pages c.args.pages.now c.args.heap.now rows feet free held c.loop-passed.page c.loop-passed.trail.mark c.loop-passed.passed before.0 c.if-page-eq0.true)
    ∙ c.whole_scan.ensures c.args.pages.now c.args.heap.now rows feet free held in
    before.1 seen (subst (λ (l : List Row). AreSeen (kinds_of c.args.columns.now) l seen) (sym all) are)

pub returns-clause-shown : goal.returns-clause-shown
returns-clause-shown g c = λ tells rows feet free held seen are.
    let before = c.loop-passed.invariant.walked tells rows feet free held in
    let all : rows_in before.0.front rows ≡ rows =
    ap (λ (l : List ℕ). rows_in l rows) (whole g.P.Pages c.args.pages.now c.args.heap.now rows feet free held c.loop-passed.page c.loop-passed.trail.mark c.loop-passed.passed before.0 c.if-page-ne0.false)
    ∙ c.whole_scan.ensures c.args.pages.now c.args.heap.now rows feet free held in
    before.1 seen (subst (λ (l : List Row). AreSeen (kinds_of c.args.columns.now) l seen) (sym all) are)

pub returns-in_err-next-clause-cause : goal.returns-in_err-next-clause-cause
returns-in_err-next-clause-cause g c =
    let p = err_from_is_err_and c.from_residual.result c.from_residual.ensures.1 in
    rw (p.1, p.2)
    (cause_weaker c.in_err-next.field-0.0 (g.P.Pages.faults c.args.pages.now) (g.P.Pages.faults c.loop-passed.pages) (g.P.Pages.faults c.next_page_of.new.pages) (g.P.Pages.faults c.next_page_of.new.pages)
    _ _ _ _ _ _ (let q = c.loop-passed.invariant.quiet.faults in omega (arith, q)) (omega arith)
    (λ at expected found broken tells rows feet free held seen are.
    let before = (c.loop-passed.invariant.walked tells rows feet free held).0 in
    let there = next g.P.Pages c.args.pages.now c.args.heap.now rows feet free held c.loop-passed.page c.loop-passed.trail.mark c.loop-passed.passed before c.if-page-eq0.false in
    let then = heap_same g.P.Pages c.args.pages.now c.loop-passed.pages c.args.heap.now rows feet free c.loop-passed.invariant.map c.loop-passed.invariant.count held in
    broken tells rows before.front there.behind free (subst (λ (l : List ℕ). HoldsHeap g.P.Pages c.loop-passed.pages c.args.heap.now rows l free) there.cut then))
    (λ n none. absurd none) (λ memory. memory) c.in_err-next.ensures.cause)

pub returns-in_err-look_at-clause-cause : goal.returns-in_err-look_at-clause-cause
returns-in_err-look_at-clause-cause g c =
    let p = err_from_is_err_and c.from_residual-in_err-look_at.result c.from_residual-in_err-look_at.ensures.1 in
    rw (p.1, p.2)
    (break_cause c.in_err-look_at.field-0.0 (g.P.Pages.faults c.args.pages.now) (g.P.Pages.faults c.next_page_of.new.pages) _ _
    (λ broken at expected found tells rows feet free held seen are.
    let before = (c.loop-passed.invariant.walked tells rows feet free held).0 in
    let there = next g.P.Pages c.args.pages.now c.args.heap.now rows feet free held c.loop-passed.page c.loop-passed.trail.mark c.loop-passed.passed before c.if-page-eq0.false in
    let then = heap_same g.P.Pages c.args.pages.now c.loop-passed.pages c.args.heap.now rows feet free c.loop-passed.invariant.map c.loop-passed.invariant.count held in
    let read = c.in_ok-next.ensures.read tells rows before.front there.behind free (subst (λ (l : List ℕ). HoldsHeap g.P.Pages c.loop-passed.pages c.args.heap.now rows l free) there.cut then) in
    let its_rows : c.next_page_of.new.rows ≡ rows_on c.loop-passed.page rows = read.0 ∙ ap (λ (l : List Row). l ++ rows_on c.loop-passed.page rows) c.new-rows.ensures in
    let on = on_page (IsSeen (kinds_of c.args.columns.now)) c.loop-passed.page rows seen are in
    broken on.0 (subst (λ (l : List Row). AreSeen (kinds_of c.args.columns.now) l on.0) (sym its_rows) on.1))
    c.in_err-look_at.ensures.cause)

pub loop-passed-preserved : goal.loop-passed-preserved
loop-passed-preserved g c = record {
  walked = λ tells rows feet free held.
      let before = c.loop-passed.invariant.walked tells rows feet free held in
      let there = next g.P.Pages c.args.pages.now c.args.heap.now rows feet free held c.loop-passed.page c.loop-passed.trail.mark c.loop-passed.passed before.0 c.if-page-eq0.false in
      let then = heap_same g.P.Pages c.args.pages.now c.loop-passed.pages c.args.heap.now rows feet free c.loop-passed.invariant.map c.loop-passed.invariant.count held in
      let read = c.in_ok-next.ensures.read tells rows before.0.front there.behind free (subst (λ (l : List ℕ). HoldsHeap g.P.Pages c.loop-passed.pages c.args.heap.now rows l free) there.cut then) in
      let its_rows : c.next_page_of.new.rows ≡ rows_on c.loop-passed.page rows = read.0 ∙ ap (λ (l : List Row). l ++ rows_on c.loop-passed.page rows) c.new-rows.ensures in (
        moved g.P.Pages c.args.pages.now c.args.heap.now rows feet free held c.loop-passed.page c.loop-passed.trail.mark c.loop-passed.passed before.0 there c.in_ok-next.next read.1 c.passes.new.self.mark c.passes.ensures.marked,
        λ seen are.
            shown_page (g.V.Visit.after c.args.columns.now) (condition_of c.args.filter.now) (kinds_of c.args.columns.now) (rows_in before.0.front rows) (rows_on c.loop-passed.page rows) c.args.visitor.now
            c.loop-passed.visitor c.look_at.new.visitor (record { rows = 0; selected = 0 }) c.loop-passed.counts c.look_at.new.counts before.1
            (λ some with. c.in_ok-look_at.ensures.shown some (subst (λ (l : List Row). AreSeen (kinds_of c.args.columns.now) l some) (sym its_rows) with)) seen
            (subst (λ (l : List Row). AreSeen (kinds_of c.args.columns.now) l seen) (rows_more before.0.front c.loop-passed.page rows) are),
      );
  still = c.in_ok-look_at.ensures.still;
  map = c.in_ok-next.ensures.map ∙ c.loop-passed.invariant.map;
  count = c.in_ok-next.ensures.count ∙ c.loop-passed.invariant.count;
  ticks = (let first = c.loop-passed.invariant.ticks in let here = c.in_ok-next.ensures.ticks in omega (arith, first, here));
  most = (let first = c.loop-passed.invariant.most in let here = c.in_ok-next.ensures.most in omega (arith, first, here));
  quiet = quiet_join g.P.Pages g.met.P.Pages.follows_on c.args.pages.now c.loop-passed.pages c.next_page_of.new.pages c.loop-passed.invariant.quiet c.in_ok-next.ensures.quiet;
}

pub returns-then-page-ne0-clause-cause : goal.returns-then-page-ne0-clause-cause
returns-then-page-ne0-clause-cause g c =
    rw (c.unended-then-page-ne0.ensures) (
      λ same. c.if-page-ne0.true (sym same),
      λ tells rows feet free held seen are.
          ends g.P.Pages c.args.pages.now c.args.heap.now rows feet free held c.loop-passed.page c.loop-passed.trail.mark c.loop-passed.passed (c.loop-passed.invariant.walked tells rows feet free held).0
          c.loop-passed-test.false c.if-page-ne0.true,
    )

pub returns-then-not-passes-clause-cause : goal.returns-then-not-passes-clause-cause
returns-then-not-passes-clause-cause g c =
    rw (c.unended.ensures) (
      λ same. c.if-page-eq0.false (sym same),
      λ tells rows feet free held seen are.
          round g.P.Pages c.args.pages.now c.args.heap.now rows feet free held c.loop-passed.page c.loop-passed.trail.mark c.loop-passed.passed (c.loop-passed.invariant.walked tells rows feet free held).0
          c.if-page-eq0.false (c.passes.ensures.met c.if-not-passes.true),
    )
