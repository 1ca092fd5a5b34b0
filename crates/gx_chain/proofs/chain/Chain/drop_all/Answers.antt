use Rattle.std.proofs.Common.{◌≡◌, ◌∙◌, ap, subst, arith}
use Rattle.std.proofs.lemmas.Result.{err_from_is_err_and}
use Rattle.gx_words.specs.PageMap.{PageMap}
use Rattle.gx_pages.specs.Frees.{KeepsHeader}
use Rattle.gx_pages.proofs.Footprints.{cause_weaker, quiet_join, gives_at}
use Rattle.gx_chain.proofs.Drops.{ended, drops_sound, drops_more}
use Rattle.gx_chain.proofs.chain.Chain.drop_all.Goals as goal

pub returns-then-page-eq0-clause-dropped : goal.returns-then-page-eq0-clause-dropped
returns-then-page-eq0-clause-dropped g c = λ tells links free held.
    ended g.P.Pages c.args.pages.now c.args.kind c.args.self links free held c.loop.pages c.loop.page c.loop.counter (c.loop.invariant.drops tells links free held)
    c.if-page-eq0.true c.loop.invariant.count

pub returns-in_err-slots-clause-cause : goal.returns-in_err-slots-clause-cause
returns-in_err-slots-clause-cause g c =
    let p = err_from_is_err_and c.from_residual.result c.from_residual.ensures.1 in
    rw (p.1, p.2)
    (cause_weaker c.in_err-slots.field-0.0 (g.P.Pages.faults c.args.pages.now) (g.P.Pages.faults c.loop.pages) (g.P.Pages.faults c.fetch_slots.new.pages) (g.P.Pages.faults c.fetch_slots.new.pages)
    _ _ _ _ _ _ (let q = c.loop.invariant.quiet.faults in omega arith) (omega arith)
    (λ at expected found broken tells links free held.
    drops_sound g.P.Pages c.args.pages.now c.args.kind c.args.self links free held c.loop.pages c.loop.page c.loop.counter (c.loop.invariant.drops tells links free held)
    c.if-page-eq0.false c.loop.invariant.count (λ some below bytes is. broken some below tells bytes is))
    (λ n no. absurd no) (λ no. absurd no) c.in_err-slots.ensures.cause)

pub loop-preserved : goal.loop-preserved
loop-preserved g c =
    let mid = c.fetch_slots.new.pages in
    let map : g.P.Pages.map mid ≡ g.P.Pages.map c.loop.pages = c.in_ok-slots.ensures.map in
    let count = c.in_ok-slots.ensures.count in
    record {
      drops = λ tells links free held.
          drops_more g.P.Pages c.args.pages.now c.args.kind c.args.self links free held c.loop.pages c.loop.page c.loop.counter (c.loop.invariant.drops tells links free held)
          c.give.new.self c.next-page.result c.in_ok-slots.slots c.if-page-eq0.false c.loop.invariant.count (c.in_ok-slots.ensures.one tells) c.next-page.ensures
          (λ n some differ. c.in_ok-give.ensures.others tells n some differ ∙ ap (λ (m : PageMap). m n) map)
          (subst (λ (m : PageMap). KeepsHeader m (g.P.Pages.map c.give.new.self)) map (c.in_ok-give.ensures.header tells))
          (c.in_ok-give.ensures.count ∙ count)
          (gives_at (g.P.Pages.map mid) (g.P.Pages.map c.loop.pages) (g.P.Pages.map c.give.new.self) (g.P.Pages.count mid) (g.P.Pages.count c.loop.pages) c.loop.page map count
          (c.in_ok-give.ensures.given tells));
      count = c.in_ok-give.ensures.count ∙ count ∙ c.loop.invariant.count;
      ticks = (let before = c.loop.invariant.ticks in let here = c.in_ok-slots.ensures.heap in let give = c.in_ok-give.ensures.heap in let tick = c.tick.ensures in omega (arith, before, here, give, tick));
      most = (let before = c.loop.invariant.most in let tick = c.tick.ensures in omega (arith, before, tick));
      fetches = (let before = c.loop.invariant.fetches in let here = c.in_ok-slots.ensures.fetches in let give = c.in_ok-give.ensures.fetches in omega (arith, before, here, give));
      quiet = quiet_join g.P.Pages g.met.P.Pages.follows_on c.args.pages.now c.loop.pages c.give.new.self c.loop.invariant.quiet
          (quiet_join g.P.Pages g.met.P.Pages.follows_on c.loop.pages mid c.give.new.self c.in_ok-slots.ensures.quiet c.in_ok-give.ensures.quiet);
    }

pub returns-clause-dropped : goal.returns-clause-dropped
returns-clause-dropped g c = λ tells links free held.
    ended g.P.Pages c.args.pages.now c.args.kind c.args.self links free held c.loop.pages c.loop.page c.loop.counter (c.loop.invariant.drops tells links free held)
    c.if-page-ne0.false c.loop.invariant.count
