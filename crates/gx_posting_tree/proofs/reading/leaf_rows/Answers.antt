use Rattle.std.proofs.Common.{◌≡◌, ◌<◌, ◌∙◌, ℕ, List, length, drop, get_or, sym, ap, refl, arith}
use Rattle.std.proofs.lemmas.Result.{err_from_is_err_and}
use Rattle.gx_words.specs.PageMap.{PageMap}
use Rattle.gx_pages.proofs.Footprints.{cause_weaker, quiet_join, quiet_none}
use Rattle.gx_tree.specs.Trees.{items_of}
use Rattle.gx_tree.proofs.Lists.{at_place}
use Rattle.gx_tree.proofs.Causes.{broken_or}
use Rattle.gx_tree.proofs.Walks.{leaf, leaf_found, leaf_sound, leaves_end}
use Rattle.gx_posting_tree.proofs.Read.{reads_all, reads_leaf, reads_leaf_refused, reads_none}
use Rattle.gx_posting_tree.proofs.reading.leaf_rows.Goals as goal

here : (list : List ℕ) (i : ℕ) (below : i < length list) → get_or list i (get_or list i 0) ≡ get_or list i 0
here list i below = (at_place list i below).is (get_or list i 0) ∙ sym ((at_place list i below).is 0)

pub loop-page-init : goal.loop-page-init
loop-page-init g c = record {
  reads = λ tells leaves rows is on spelled. reads_none c.args.to.now rows (items_of leaves) spelled;
  map = refl;
  count = refl;
  heap = refl;
  fetches = omega arith;
  quiet = quiet_none g.P.Pages g.met.P.Pages.follows_itself c.args.pages.now;
}

pub returns-in_err-slots-clause-quiet : goal.returns-in_err-slots-clause-quiet
returns-in_err-slots-clause-quiet g c = quiet_join g.P.Pages g.met.P.Pages.follows_on c.args.pages.now c.loop-page.pages c.fetch_level.new.pages c.loop-page.invariant.quiet c.in_err-slots.ensures.quiet

pub returns-in_err-push_rows-clause-quiet : goal.returns-in_err-push_rows-clause-quiet
returns-in_err-push_rows-clause-quiet g c = quiet_join g.P.Pages g.met.P.Pages.follows_on c.args.pages.now c.loop-page.pages c.fetch_level.new.pages c.loop-page.invariant.quiet c.in_ok-slots.ensures.quiet

pub returns-in_err-slots-clause-cause : goal.returns-in_err-slots-clause-cause
returns-in_err-slots-clause-cause g c =
    let p = err_from_is_err_and c.from_residual.result c.from_residual.ensures.1 in
    rw (p.1, p.2)
    (cause_weaker c.in_err-slots.field-0.0 (g.P.Pages.faults c.args.pages.now) (g.P.Pages.faults c.loop-page.pages) (g.P.Pages.faults c.fetch_level.new.pages) (g.P.Pages.faults c.fetch_level.new.pages)
    _ _ _ _ _ _ (let q = c.loop-page.invariant.quiet.faults in omega arith) (omega arith) (λ at expected found broken tells leaves rows is on below spelled rising.
    leaf_sound (g.P.Pages.map c.args.pages.now) 6 c.args.list.now leaves is on c.loop-page.page-index (get_or c.args.list.now c.loop-page.page-index 0) c.loop-page-test.true
    (here c.args.list.now c.loop-page.page-index c.loop-page-test.true) (g.P.Pages.count c.args.pages.now) below
    (λ slots at fits kinds levels some few. broken tells slots (ap (λ (m : PageMap). m (get_or c.args.list.now c.loop-page.page-index 0)) c.loop-page.invariant.map ∙ at) fits kinds levels some (let same = c.loop-page.invariant.count in omega (arith, few, same))))
    (λ n no. absurd no) (λ no. absurd no) c.in_err-slots.ensures.cause)

pub returns-in_err-push_rows-clause-cause : goal.returns-in_err-push_rows-clause-cause
returns-in_err-push_rows-clause-cause g c =
    let p = err_from_is_err_and c.from_residual-in_err-push_rows.result c.from_residual-in_err-push_rows.ensures.1 in
    let page = get_or c.args.list.now c.loop-page.page-index 0 in
    rw (p.1, p.2)
    (broken_or c.in_err-push_rows.field-0.0 page (g.P.Pages.faults c.args.pages.now) (g.P.Pages.faults c.fetch_level.new.pages) _ _ _ _ c.in_err-push_rows.ensures.cause
    (λ refused at expected found tells leaves rows is on below spelled.
    let one = leaf_found (g.P.Pages.map c.args.pages.now) 6 c.args.list.now leaves is on c.loop-page.page-index page c.loop-page-test.true (here c.args.list.now c.loop-page.page-index c.loop-page-test.true)
    c.in_ok-slots.slots (λ s at fits. c.in_ok-slots.ensures.one tells s (ap (λ (m : PageMap). m page) c.loop-page.invariant.map ∙ at) fits) in
    reads_leaf_refused (g.P.Pages.map c.args.pages.now) 6 c.args.list.now leaves is on c.loop-page.page-index page c.loop-page-test.true (here c.args.list.now c.loop-page.page-index c.loop-page-test.true)
    c.args.to.now c.loop-page.to rows (c.loop-page.invariant.reads tells leaves rows is on spelled)
    (λ part spells rising. refused (leaf (g.P.Pages.map c.args.pages.now) 6 c.args.list.now leaves is on c.loop-page.page-index page c.loop-page-test.true (here c.args.list.now c.loop-page.page-index c.loop-page-test.true)).1 part one spells rising))
    tt)

pub loop-page-preserved : goal.loop-page-preserved
loop-page-preserved g c =
    let page = get_or c.args.list.now c.loop-page.page-index 0 in
    record {
      reads = λ tells leaves rows is on spelled.
          let one = leaf_found (g.P.Pages.map c.args.pages.now) 6 c.args.list.now leaves is on c.loop-page.page-index page c.loop-page-test.true (here c.args.list.now c.loop-page.page-index c.loop-page-test.true)
          c.in_ok-slots.slots (λ s at fits. c.in_ok-slots.ensures.one tells s (ap (λ (m : PageMap). m page) c.loop-page.invariant.map ∙ at) fits) in
          reads_leaf (g.P.Pages.map c.args.pages.now) 6 c.args.list.now leaves is on c.loop-page.page-index page c.loop-page-test.true (here c.args.list.now c.loop-page.page-index c.loop-page-test.true)
          c.args.to.now c.loop-page.to rows (c.loop-page.invariant.reads tells leaves rows is on spelled) c.push_rows.new.to
          (λ part spells. c.in_ok-push_rows.ensures.ok (leaf (g.P.Pages.map c.args.pages.now) 6 c.args.list.now leaves is on c.loop-page.page-index page c.loop-page-test.true (here c.args.list.now c.loop-page.page-index c.loop-page-test.true)).1 part one spells);
      map = c.in_ok-slots.ensures.map ∙ c.loop-page.invariant.map;
      count = c.in_ok-slots.ensures.count ∙ c.loop-page.invariant.count;
      heap = c.in_ok-slots.ensures.heap (omega arith) tt ∙ c.loop-page.invariant.heap;
      fetches = (let before = c.loop-page.invariant.fetches in let more = c.in_ok-slots.ensures.fetches in omega (arith, before, more));
      quiet = quiet_join g.P.Pages g.met.P.Pages.follows_on c.args.pages.now c.loop-page.pages c.fetch_level.new.pages c.loop-page.invariant.quiet c.in_ok-slots.ensures.quiet;
    }

pub returns-clause-ok : goal.returns-clause-ok
returns-clause-ok g c = λ tells leaves rows is on spelled.
    reads_all c.args.to.now c.loop-page.to rows (items_of (drop c.loop-page.page-index leaves)) (leaves_end c.args.list.now leaves c.loop-page.page-index is c.loop-page-test.false)
    (c.loop-page.invariant.reads tells leaves rows is on spelled)
