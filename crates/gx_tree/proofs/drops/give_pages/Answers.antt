use Rattle.std.proofs.Common.{◌≡◌, ◌+◌, ◌≤◌, ◌<◌, ◌∙◌, ℕ, List, length, get_or, sym, ap, subst, refl, arith}
use Rattle.std.proofs.lemmas.Result.{err_from_is_err_and}
use Rattle.gx_words.specs.PageMap.{PageMap}
use Rattle.gx_pages.specs.Frees.{KeepsHeader}
use Rattle.gx_pages.proofs.Footprints.{cause_weaker, quiet_join, quiet_none, gives_at}
use Rattle.gx_tree.proofs.Lists.{at_place}
use Rattle.gx_tree.proofs.Dropped.{dropping_all, dropping_more, dropping_none, dropping_sound}
use Rattle.gx_tree.proofs.drops.give_pages.Goals as goal

here : (list : List ℕ) (i : ℕ) (below : i < length list) → get_or list i (get_or list i 0) ≡ get_or list i 0
here list i below = (at_place list i below).is (get_or list i 0) ∙ sym ((at_place list i below).is 0)

pub loop-page-init : goal.loop-page-init
loop-page-init g c = record {
  gives = λ tells free gives. dropping_none g.P.Pages c.args.pages.now c.args.kind c.args.list.now free gives;
  count = refl;
  heap = λ other. refl;
  quiet = quiet_none g.P.Pages g.met.P.Pages.follows_itself c.args.pages.now;
}

pub returns-in_err-fetch_slots-clause-quiet : goal.returns-in_err-fetch_slots-clause-quiet
returns-in_err-fetch_slots-clause-quiet g c = quiet_join g.P.Pages g.met.P.Pages.follows_on c.args.pages.now c.loop-page.pages c.fetch_slots.new.pages c.loop-page.invariant.quiet c.in_err-fetch_slots.ensures.quiet

pub returns-in_err-fetch_slots-clause-cause : goal.returns-in_err-fetch_slots-clause-cause
returns-in_err-fetch_slots-clause-cause g c =
    let p = err_from_is_err_and c.from_residual.result c.from_residual.ensures.1 in
    rw (p.1, p.2)
    (cause_weaker c.in_err-fetch_slots.field-0.0 (g.P.Pages.faults c.args.pages.now) (g.P.Pages.faults c.loop-page.pages) (g.P.Pages.faults c.fetch_slots.new.pages) (g.P.Pages.faults c.fetch_slots.new.pages)
    _ _ _ _ _ _ (let q = c.loop-page.invariant.quiet.faults in omega arith) (omega arith) (λ at expected found broken tells free gives.
    dropping_sound g.P.Pages c.args.pages.now c.args.kind c.args.list.now free gives c.loop-page.pages c.loop-page.page-index (get_or c.args.list.now c.loop-page.page-index 0) c.loop-page-test.true
    (here c.args.list.now c.loop-page.page-index c.loop-page-test.true) (c.loop-page.invariant.gives tells free gives) c.loop-page.invariant.count
    (λ some below bytes is. broken some below tells bytes is))
    (λ n no. absurd no) (λ no. absurd no) c.in_err-fetch_slots.ensures.cause)

pub loop-page-preserved : goal.loop-page-preserved
loop-page-preserved g c =
    let mid = c.fetch_slots.new.pages in
    let map : g.P.Pages.map mid ≡ g.P.Pages.map c.loop-page.pages = c.in_ok-fetch_slots.ensures.map in
    let count = c.in_ok-fetch_slots.ensures.count in
    record {
      gives = λ tells free gives.
          dropping_more g.P.Pages c.args.pages.now c.args.kind c.args.list.now free gives c.loop-page.pages c.loop-page.page-index (get_or c.args.list.now c.loop-page.page-index 0) c.loop-page-test.true
          (here c.args.list.now c.loop-page.page-index c.loop-page-test.true) (c.loop-page.invariant.gives tells free gives) c.loop-page.invariant.count
          c.give.new.self
          (λ n some differ. c.in_ok-give.ensures.others tells n some differ ∙ ap (λ (m : PageMap). m n) map)
          (subst (λ (m : PageMap). KeepsHeader m (g.P.Pages.map c.give.new.self)) map (c.in_ok-give.ensures.header tells))
          (c.in_ok-give.ensures.count ∙ count)
          (gives_at (g.P.Pages.map mid) (g.P.Pages.map c.loop-page.pages) (g.P.Pages.map c.give.new.self) (g.P.Pages.count mid) (g.P.Pages.count c.loop-page.pages) (get_or c.args.list.now c.loop-page.page-index 0) map count
          (c.in_ok-give.ensures.given tells));
      count = c.in_ok-give.ensures.count ∙ count ∙ c.loop-page.invariant.count;
      heap = λ other. c.in_ok-give.ensures.heap ∙ c.in_ok-fetch_slots.ensures.other other tt ∙ c.loop-page.invariant.heap other;
      quiet = quiet_join g.P.Pages g.met.P.Pages.follows_on c.args.pages.now c.loop-page.pages c.give.new.self c.loop-page.invariant.quiet
          (quiet_join g.P.Pages g.met.P.Pages.follows_on c.loop-page.pages mid c.give.new.self c.in_ok-fetch_slots.ensures.quiet c.in_ok-give.ensures.quiet);
    }

pub returns-clause-given : goal.returns-clause-given
returns-clause-given g c = λ tells free gives.
    dropping_all g.P.Pages c.args.pages.now c.args.kind c.args.list.now free gives c.loop-page.pages c.loop-page.page-index c.loop-page-test.false (c.loop-page.invariant.gives tells free gives) c.loop-page.invariant.count
