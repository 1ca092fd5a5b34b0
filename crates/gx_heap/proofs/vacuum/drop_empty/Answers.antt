use Rattle.std.proofs.Common.{ℕ, ◌∷◌, ◌++◌, refl, sym, ◌∙◌, ap, subst, arith}
use Rattle.std.proofs.lemmas.Result.{err_from_is_err_and}
use Rattle.gx_words.specs.PageMap.{PageMap}
use Rattle.gx_pages.proofs.Footprints.{cause_weaker, quiet_join, quiet_none}
use Rattle.gx_chain.specs.declared.chain.Chain.{Chain}
use Rattle.gx_chain.specs.Chains.{AreLinked}
use Rattle.gx_chain.proofs.Links.{broken_cause}
use Rattle.gx_heap.proofs.Sweeps.{Sweeps, linked_here, sweeps_before, sweeps_behind, sweeps_end, sweeps_first, sweeps_long, sweeps_none, sweeps_read, sweeps_round, sweeps_sound, sweeps_stay}
use Rattle.gx_heap.proofs.vacuum.drop_empty.Goals as goal

pub loop-init : goal.loop-init
loop-init g c = record {
  sweeps = λ tells links free held. subst (λ (m : ℕ). Sweeps g.P.Pages c.args.pages.now c.args.pages.now c.args.chain.now links free c.args.chain.now.first 0 m 0) (sym c.new-trail.ensures)
      (sweeps_none g.P.Pages c.args.pages.now c.args.chain.now links free held);
  last = refl;
  bound = refl;
  count = refl;
  ticks = omega arith;
  most = omega arith;
  fetches = omega arith;
  quiet = quiet_none g.P.Pages g.met.P.Pages.follows_itself c.args.pages.now;
}

pub returns-in_err-slots-clause-cause : goal.returns-in_err-slots-clause-cause
returns-in_err-slots-clause-cause g c =
    let p = err_from_is_err_and c.from_residual.result c.from_residual.ensures.1 in
    rw (p.1, p.2)
    (cause_weaker c.in_err-slots.field-0.0 (g.P.Pages.faults c.args.pages.now) (g.P.Pages.faults c.loop.pages) (g.P.Pages.faults c.fetch_slots.new.pages) (g.P.Pages.faults c.fetch_slots.new.pages)
    _ _ _ _ _ _ (let q = c.loop.invariant.quiet.faults in omega arith) (omega arith)
    (λ at expected found broken tells links free held.
    sweeps_sound g.P.Pages c.args.pages.now c.loop.pages c.loop.chain links free c.loop.page c.loop.before c.loop.trail.mark c.loop.counter (c.loop.invariant.sweeps tells links free held)
    (λ some below bytes is. broken some below tells bytes is))
    (λ n none. absurd none) (λ none. absurd none) c.in_err-slots.ensures.cause)

pub returns-then-next-eq0-clause-kept : goal.returns-then-next-eq0-clause-kept
returns-then-next-eq0-clause-kept g c = λ tells links free held.
    let read = (sweeps_read g.P.Pages c.args.pages.now c.loop.pages c.fetch_slots.new.pages c.loop.chain links free c.loop.page c.loop.before c.loop.trail.mark c.loop.counter c.in_ok-slots.ensures.map c.in_ok-slots.ensures.count (c.loop.invariant.sweeps tells links free held)) in
    sweeps_end g.P.Pages c.args.pages.now c.fetch_slots.new.pages c.loop.chain links free c.loop.page c.loop.before c.loop.trail.mark c.loop.counter read
    c.next-next.result c.in_ok-slots.slots (c.in_ok-slots.ensures.link tells read.kept read.left read.next.1 (subst (λ (m : PageMap). AreLinked m 2 (read.kept ++ (c.loop.page, read.next.1) ∷ read.left)) c.in_ok-slots.ensures.map (linked_here g.P.Pages c.args.pages.now c.fetch_slots.new.pages c.loop.chain links free c.loop.page c.loop.before c.loop.trail.mark c.loop.counter read))) c.next-next.ensures c.if-next-eq0.true

pub returns-then-not-passes-clause-cause : goal.returns-then-not-passes-clause-cause
returns-then-not-passes-clause-cause g c =
    broken_cause c.unended.result c.loop.page (g.P.Pages.faults c.args.pages.now) (g.P.Pages.faults c.fetch_slots.new.pages) _ _ _ c.unended.ensures
    (λ at expected found tells links free held. sweeps_round g.P.Pages c.args.pages.now c.loop.pages c.loop.chain links free c.loop.page c.loop.before c.loop.trail.mark c.loop.counter (c.loop.invariant.sweeps tells links free held) (c.passes.ensures.met c.if-not-passes.true))

pub loop-preserved-then-not-is_empty : goal.loop-preserved-then-not-is_empty
loop-preserved-then-not-is_empty g c = record {
  sweeps = λ tells links free held.
      let read = (sweeps_read g.P.Pages c.args.pages.now c.loop.pages c.fetch_slots.new.pages c.loop.chain links free c.loop.page c.loop.before c.loop.trail.mark c.loop.counter c.in_ok-slots.ensures.map c.in_ok-slots.ensures.count (c.loop.invariant.sweeps tells links free held)) in
      sweeps_stay g.P.Pages c.args.pages.now c.fetch_slots.new.pages c.loop.chain links free c.loop.page c.loop.before c.loop.trail.mark c.loop.counter read
      c.next-next.result c.in_ok-slots.slots (c.in_ok-slots.ensures.link tells read.kept read.left read.next.1 (subst (λ (m : PageMap). AreLinked m 2 (read.kept ++ (c.loop.page, read.next.1) ∷ read.left)) c.in_ok-slots.ensures.map (linked_here g.P.Pages c.args.pages.now c.fetch_slots.new.pages c.loop.chain links free c.loop.page c.loop.before c.loop.trail.mark c.loop.counter read))) c.next-next.ensures (c.is_empty.ensures.filled c.if-not-is_empty.true) c.if-next-eq0.false c.passes.new.self.mark c.passes.ensures.marked;
  last = c.loop.invariant.last;
  bound = c.loop.invariant.bound;
  count = c.in_ok-slots.ensures.count ∙ c.loop.invariant.count;
  ticks = (let before = c.loop.invariant.ticks in let here = c.in_ok-slots.ensures.heap in let tick = c.tick.ensures in omega (arith, before, here, tick));
  fetches = (let before = c.loop.invariant.fetches in let here = c.in_ok-slots.ensures.fetches in omega (arith, before, here));
  most = (let before = c.loop.invariant.most in let tick = c.tick.ensures in omega (arith, before, tick));
  quiet = quiet_join g.P.Pages g.met.P.Pages.follows_on c.args.pages.now c.loop.pages c.fetch_slots.new.pages c.loop.invariant.quiet c.in_ok-slots.ensures.quiet;
}

pub loop-preserved-then-before-eq0 : goal.loop-preserved-then-before-eq0
loop-preserved-then-before-eq0 g c = record {
  sweeps = λ tells links free held.
      let read = (sweeps_read g.P.Pages c.args.pages.now c.loop.pages c.fetch_slots.new.pages c.loop.chain links free c.loop.page c.loop.before c.loop.trail.mark c.loop.counter c.in_ok-slots.ensures.map c.in_ok-slots.ensures.count (c.loop.invariant.sweeps tells links free held)) in
      sweeps_first g.P.Pages c.args.pages.now c.fetch_slots.new.pages c.loop.chain links free c.loop.page c.loop.before c.loop.trail.mark c.loop.counter read
      c.next-next.result c.in_ok-slots.slots (c.in_ok-slots.ensures.link tells read.kept read.left read.next.1 (subst (λ (m : PageMap). AreLinked m 2 (read.kept ++ (c.loop.page, read.next.1) ∷ read.left)) c.in_ok-slots.ensures.map (linked_here g.P.Pages c.args.pages.now c.fetch_slots.new.pages c.loop.chain links free c.loop.page c.loop.before c.loop.trail.mark c.loop.counter read))) c.next-next.ensures c.unlink_first.new.pages c.unlink_first.new.self (c.is_empty.ensures.empty c.if-not-is_empty.false) c.if-next-eq0.false c.if-before-eq0.true
      (λ back items frees was at. c.in_ok-unlink_first.ensures.unlinked tells c.if-next-eq0.false 2 back items frees was at);
  last = ap (λ (k : Chain). k.last) c.in_ok-unlink_first.ensures.chain ∙ c.loop.invariant.last;
  bound = ap (λ (k : Chain). k.pages) c.in_ok-unlink_first.ensures.chain ∙ c.loop.invariant.bound;
  count = c.in_ok-unlink_first.ensures.count ∙ c.in_ok-slots.ensures.count ∙ c.loop.invariant.count;
  ticks = (let before = c.loop.invariant.ticks in let here = c.in_ok-slots.ensures.heap in let tick = c.tick.ensures in let still = c.in_ok-unlink_first.ensures.heap in omega (arith, before, here, tick, still));
  fetches = (let before = c.loop.invariant.fetches in let here = c.in_ok-slots.ensures.fetches in let still = c.in_ok-unlink_first.ensures.fetches in omega (arith, before, here, still));
  most = (let before = c.loop.invariant.most in let tick = c.tick.ensures in omega (arith, before, tick));
  quiet = quiet_join g.P.Pages g.met.P.Pages.follows_on c.args.pages.now c.fetch_slots.new.pages c.unlink_first.new.pages (quiet_join g.P.Pages g.met.P.Pages.follows_on c.args.pages.now c.loop.pages c.fetch_slots.new.pages c.loop.invariant.quiet c.in_ok-slots.ensures.quiet) c.in_ok-unlink_first.ensures.quiet;
}

pub returns-in_err-unlink_behind-clause-cause : goal.returns-in_err-unlink_behind-clause-cause
returns-in_err-unlink_behind-clause-cause g c =
    let p = err_from_is_err_and c.from_residual-in_err-unlink_behind.result c.from_residual-in_err-unlink_behind.ensures.1 in
    rw (p.1, p.2)
    (cause_weaker c.in_err-unlink_behind.field-0.0 (g.P.Pages.faults c.args.pages.now) (g.P.Pages.faults c.fetch_slots.new.pages) (g.P.Pages.faults c.unlink_behind.new.pages) (g.P.Pages.faults c.unlink_behind.new.pages)
    _ _ _ _ _ _ (let q = c.loop.invariant.quiet.faults in let more = c.in_ok-slots.ensures.quiet.faults in omega (arith, q, more)) (omega arith)
    (λ at expected found broken tells links free held.
    let read = (sweeps_read g.P.Pages c.args.pages.now c.loop.pages c.fetch_slots.new.pages c.loop.chain links free c.loop.page c.loop.before c.loop.trail.mark c.loop.counter c.in_ok-slots.ensures.map c.in_ok-slots.ensures.count (c.loop.invariant.sweeps tells links free held)) in
    sweeps_before g.P.Pages c.args.pages.now c.fetch_slots.new.pages c.loop.chain links free c.loop.page c.loop.before c.loop.trail.mark c.loop.counter read c.if-before-eq0.false (λ front back others was. broken tells front back others was))
    (λ n none. absurd none) (λ memory. memory) c.in_err-unlink_behind.ensures.cause)

pub loop-preserved : goal.loop-preserved
loop-preserved g c = record {
  sweeps = λ tells links free held.
      let read = (sweeps_read g.P.Pages c.args.pages.now c.loop.pages c.fetch_slots.new.pages c.loop.chain links free c.loop.page c.loop.before c.loop.trail.mark c.loop.counter c.in_ok-slots.ensures.map c.in_ok-slots.ensures.count (c.loop.invariant.sweeps tells links free held)) in
      sweeps_behind g.P.Pages c.args.pages.now c.fetch_slots.new.pages c.loop.chain links free c.loop.page c.loop.before c.loop.trail.mark c.loop.counter read
      c.next-next.result c.in_ok-slots.slots (c.in_ok-slots.ensures.link tells read.kept read.left read.next.1 (subst (λ (m : PageMap). AreLinked m 2 (read.kept ++ (c.loop.page, read.next.1) ∷ read.left)) c.in_ok-slots.ensures.map (linked_here g.P.Pages c.args.pages.now c.fetch_slots.new.pages c.loop.chain links free c.loop.page c.loop.before c.loop.trail.mark c.loop.counter read))) c.next-next.ensures c.unlink_behind.new.pages (c.is_empty.ensures.empty c.if-not-is_empty.false) c.if-next-eq0.false c.if-before-eq0.false
      (λ front back others items frees was at. c.in_ok-unlink_behind.ensures.unlinked tells c.if-next-eq0.false front back others items frees was at);
  last = c.loop.invariant.last;
  bound = c.loop.invariant.bound;
  count = c.in_ok-unlink_behind.ensures.count ∙ c.in_ok-slots.ensures.count ∙ c.loop.invariant.count;
  ticks = (let before = c.loop.invariant.ticks in let here = c.in_ok-slots.ensures.heap in let tick = c.tick.ensures in let more = c.in_ok-unlink_behind.ensures.heap in let again = c.tick-in-loop.ensures in omega (arith, before, here, tick, more, again));
  fetches = (let before = c.loop.invariant.fetches in let here = c.in_ok-slots.ensures.fetches in let more = c.in_ok-unlink_behind.ensures.fetches in omega (arith, before, here, more));
  most = (let before = c.loop.invariant.most in let tick = c.tick.ensures in let again = c.tick-in-loop.ensures in omega (arith, before, tick, again));
  quiet = quiet_join g.P.Pages g.met.P.Pages.follows_on c.args.pages.now c.fetch_slots.new.pages c.unlink_behind.new.pages (quiet_join g.P.Pages g.met.P.Pages.follows_on c.args.pages.now c.loop.pages c.fetch_slots.new.pages c.loop.invariant.quiet c.in_ok-slots.ensures.quiet) c.in_ok-unlink_behind.ensures.quiet;
}

pub returns-clause-cause : goal.returns-clause-cause
returns-clause-cause g c =
    let done = c.loop-test.false in
    broken_cause c.unended-2.result c.loop.page (g.P.Pages.faults c.args.pages.now) (g.P.Pages.faults c.loop.pages) _ _ _ c.unended-2.ensures
    (λ at expected found tells links free held.
    sweeps_long g.P.Pages c.args.pages.now c.loop.pages c.loop.chain links free c.loop.page c.loop.before c.loop.trail.mark c.loop.counter (c.loop.invariant.sweeps tells links free held) (let bound = held.held.bound in let same = c.loop.invariant.bound in omega (arith, bound, same, done)))
