use Rattle.std.proofs.Common.{inr, ⊎_elim, sym, ◌∙◌, ap, arith}
use Rattle.std.proofs.lemmas.Result.{err_from_is_err_and}
use Rattle.gx_words.specs.PageMap.{PageMap}
use Rattle.gx_pages.proofs.Footprints.{cause_weaker, quiet_join}
use Rattle.gx_chain.proofs.Walks.{walks_sound, walks_flat, walks_round, walks_long, walks_more, walks_end}
use Rattle.gx_chain.proofs.chain.Chain.open.Goals as goal

pub returns-in_err-slots-clause-cause : goal.returns-in_err-slots-clause-cause
returns-in_err-slots-clause-cause g c =
    let p = err_from_is_err_and c.from_residual.result c.from_residual.ensures.1 in
    rw (p.1, p.2)
    (cause_weaker c.in_err-slots.field-0.0 (g.P.Pages.faults c.args.pages.now) (g.P.Pages.faults c.loop-passed.pages) (g.P.Pages.faults c.fetch_slots.new.pages) (g.P.Pages.faults c.fetch_slots.new.pages)
    _ _ _ _ _ _ (let q = c.loop-passed.invariant.quiet.faults in omega arith) (omega arith)
    (λ at expected found broken tells.
    walks_sound (g.P.Pages.map c.args.pages.now) (g.P.Pages.count c.args.pages.now) c.args.kind c.args.first c.loop-passed.page c.loop-passed.entries.items c.loop-passed.feet.items c.loop-passed.trail.mark c.loop-passed.passed
    (c.loop-passed.invariant.walks tells)
    (λ some below bytes is. broken some (let same = c.loop-passed.invariant.count in omega arith) tells bytes (ap (λ (m : PageMap). m c.loop-passed.page) c.loop-passed.invariant.map ∙ is)))
    (λ n no. absurd no) (λ no. absurd no) c.in_err-slots.ensures.cause)

pub returns-then-level-ne0-clause-cause : goal.returns-then-level-ne0-clause-cause
returns-then-level-ne0-clause-cause g c = (
  λ same. let e = c.from.ensures in let other = c.if-level-ne0.true in omega (arith, same, e, other),
  λ tells.
      walks_flat (g.P.Pages.map c.args.pages.now) (g.P.Pages.count c.args.pages.now) c.args.kind c.args.first c.loop-passed.page c.loop-passed.entries.items c.loop-passed.feet.items c.loop-passed.trail.mark c.loop-passed.passed
      (c.loop-passed.invariant.walks tells)
      c.in_ok-slots.slots (λ slots is fits. c.in_ok-slots.ensures.one tells slots (ap (λ (m : PageMap). m c.loop-passed.page) c.loop-passed.invariant.map ∙ is) fits)
      (λ none. c.if-level-ne0.true (c.level-level.ensures ∙ none)),
)

pub returns-then-not-passes-clause-cause : goal.returns-then-not-passes-clause-cause
returns-then-not-passes-clause-cause g c =
    let is = c.unended.ensures in
    rw is (
      λ same. c.in_ok-slots.ensures.nonzero (sym same),
      λ tells.
          walks_round (g.P.Pages.map c.args.pages.now) (g.P.Pages.count c.args.pages.now) c.args.kind c.args.first c.loop-passed.page c.loop-passed.entries.items c.loop-passed.feet.items c.loop-passed.trail.mark c.loop-passed.passed
          (c.loop-passed.invariant.walks tells)
          (c.passes.ensures.met c.if-not-passes.true),
    )

pub returns-then-next-eq0-clause-linked : goal.returns-then-next-eq0-clause-linked
returns-then-next-eq0-clause-linked g c = λ tells.
    walks_end (g.P.Pages.map c.args.pages.now) (g.P.Pages.count c.args.pages.now) c.args.kind c.args.first c.loop-passed.page c.loop-passed.entries.items c.loop-passed.feet.items c.loop-passed.trail.mark c.loop-passed.passed
    (c.loop-passed.invariant.walks tells)
    c.next-next.result c.in_ok-slots.slots
    (ap (λ (m : PageMap). m c.loop-passed.page) (sym c.loop-passed.invariant.map) ∙ c.in_ok-slots.ensures.bytes tells) c.in_ok-slots.ensures.fits c.in_ok-slots.ensures.kind
    (sym c.level-level.ensures ∙ c.if-level-ne0.false) c.next-next.ensures c.in_ok-slots.ensures.nonzero (let below = c.in_ok-slots.ensures.below in let same = c.loop-passed.invariant.count in omega (arith, below, same))
    c.push_entries.new.entries.items c.in_ok-push_entries.ensures.ok c.push.new.self.items c.in-Ok.ensures.items c.if-next-eq0.true

pub loop-passed-preserved : goal.loop-passed-preserved
loop-passed-preserved g c = record {
  walks = λ tells.
      walks_more (g.P.Pages.map c.args.pages.now) (g.P.Pages.count c.args.pages.now) c.args.kind c.args.first c.loop-passed.page c.loop-passed.entries.items c.loop-passed.feet.items c.loop-passed.trail.mark c.loop-passed.passed
      (c.loop-passed.invariant.walks tells)
      c.next-next.result c.in_ok-slots.slots
      (ap (λ (m : PageMap). m c.loop-passed.page) (sym c.loop-passed.invariant.map) ∙ c.in_ok-slots.ensures.bytes tells) c.in_ok-slots.ensures.fits c.in_ok-slots.ensures.kind
      (sym c.level-level.ensures ∙ c.if-level-ne0.false) c.next-next.ensures c.in_ok-slots.ensures.nonzero (let below = c.in_ok-slots.ensures.below in let same = c.loop-passed.invariant.count in omega (arith, below, same))
      c.push_entries.new.entries.items c.in_ok-push_entries.ensures.ok c.push.new.self.items c.in-Ok.ensures.items c.passes.new.self.mark c.passes.ensures.marked c.if-next-eq0.false;
  map = c.in_ok-slots.ensures.map ∙ c.loop-passed.invariant.map;
  count = c.in_ok-slots.ensures.count ∙ c.loop-passed.invariant.count;
  other = λ other. c.in_ok-slots.ensures.other other tt ∙ c.loop-passed.invariant.other other;
  fetches = (let before = c.loop-passed.invariant.fetches in let here = c.in_ok-slots.ensures.fetches in omega (arith, before, here));
  goes = inr c.if-next-eq0.false;
  quiet = quiet_join g.P.Pages g.met.P.Pages.follows_on c.args.pages.now c.loop-passed.pages c.fetch_slots.new.pages c.loop-passed.invariant.quiet c.in_ok-slots.ensures.quiet;
}

pub returns-clause-cause : goal.returns-clause-cause
returns-clause-cause g c =
    let is = c.unended-2.ensures in
    let done = c.loop-passed-test.false in
    rw is (
      λ same. ⊎_elim (λ none. omega (arith, none, done)) (λ some. some (sym same)) c.loop-passed.invariant.goes,
      λ tells.
          walks_long (g.P.Pages.map c.args.pages.now) (g.P.Pages.count c.args.pages.now) c.args.kind c.args.first c.loop-passed.page c.loop-passed.entries.items c.loop-passed.feet.items c.loop-passed.trail.mark c.loop-passed.passed
          (c.loop-passed.invariant.walks tells)
          (let bound = g.met.P.Pages.bounded c.args.pages.now in omega (arith, bound, done)),
    )
