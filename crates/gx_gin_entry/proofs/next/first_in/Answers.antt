use Rattle.std.proofs.Common.{◌≡◌, ◌+◌, ◌≤◌, ◌<◌, ◌∷◌, [], ◌++◌, ◌∙◌, ℕ, List, length, drop, get_or, sym, ap, refl, arith}
use Rattle.std.proofs.lemmas.Result.{err_from_is_err_and}
use Rattle.gx_words.specs.PageMap.{PageMap}
use Rattle.gx_pages.proofs.Footprints.{cause_weaker, quiet_join}
use Rattle.gx_slot.specs.Slots.{Slots, Fits, spelling}
use Rattle.gx_tree.specs.Trees.{items_of}
use Rattle.gx_tree.proofs.Causes.{broken_or}
use Rattle.gx_tree.proofs.Lists.{at_place}
use Rattle.gx_tree.proofs.Walks.{leaf_sound, leaves_end}
use Rattle.gx_gin_entry.proofs.Nexts.{left_none, next_none, page_found, page_none, page_refused}
use Rattle.gx_gin_entry.proofs.next.first_in.Goals as goal

here : (list : List ℕ) (i : ℕ) (below : i < length list) → get_or list i (get_or list i 0) ≡ get_or list i 0
here list i below = (at_place list i below).is (get_or list i 0) ∙ sym ((at_place list i below).is 0)

pub returns-in_err-slots-clause-cause : goal.returns-in_err-slots-clause-cause
returns-in_err-slots-clause-cause g c =
    let p = err_from_is_err_and c.from_residual.result c.from_residual.ensures.1 in
    rw (p.1, p.2)
    (cause_weaker c.in_err-slots.field-0.0 (g.P.Pages.faults c.args.pages.now) (g.P.Pages.faults c.loop-page.pages) (g.P.Pages.faults c.fetch_level.new.pages) (g.P.Pages.faults c.fetch_level.new.pages)
    _ _ _ _ _ _ (let q = c.loop-page.invariant.quiet.faults in omega arith) (omega arith) (λ at expected found broken tells row entries is on below are fit rise.
    leaf_sound (g.P.Pages.map c.args.pages.now) 5 c.args.list.now row is on c.loop-page.page-index (get_or c.args.list.now c.loop-page.page-index 0) c.loop-page-test.true
    (here c.args.list.now c.loop-page.page-index c.loop-page-test.true) (g.P.Pages.count c.args.pages.now) below
    (λ slots at fits kinds levels some few. broken tells slots (ap (λ (m : PageMap). m (get_or c.args.list.now c.loop-page.page-index 0)) c.loop-page.invariant.map ∙ at) fits kinds levels some (let same = c.loop-page.invariant.count in omega (arith, few, same))))
    (λ n no. absurd no) (λ no. absurd no) c.in_err-slots.ensures.cause)

pub returns-in_err-found-clause-cause : goal.returns-in_err-found-clause-cause
returns-in_err-found-clause-cause g c =
    let p = err_from_is_err_and c.from_residual-in_err-found.result c.from_residual-in_err-found.ensures.1 in
    let page = get_or c.args.list.now c.loop-page.page-index 0 in
    rw (p.1, p.2)
    (broken_or c.in_err-found.field-0.0 page (g.P.Pages.faults c.args.pages.now) (g.P.Pages.faults c.fetch_level.new.pages) _ _ _ _ c.in_err-found.ensures.cause
    (λ refused at expected found tells row entries is on below are fit rise.
    page_refused (g.P.Pages.map c.args.pages.now) c.args.list.now row is on c.loop-page.page-index page c.loop-page-test.true (here c.args.list.now c.loop-page.page-index c.loop-page-test.true)
    c.in_ok-slots.slots (λ s at fits. c.in_ok-slots.ensures.one tells s (ap (λ (m : PageMap). m page) c.loop-page.invariant.map ∙ at) fits) entries
    (c.loop-page.invariant.left tells row entries is on are fit rise) fit rise refused)
    tt)

pub returns-in-Some-clause-found : goal.returns-in-Some-clause-found
returns-in-Some-clause-found g c = λ tells row entries is on are fit rise.
    let page = get_or c.args.list.now c.loop-page.page-index 0 in
    page_found (g.P.Pages.map c.args.pages.now) c.args.list.now row is on c.loop-page.page-index page c.loop-page-test.true (here c.args.list.now c.loop-page.page-index c.loop-page-test.true)
    c.in_ok-slots.slots (λ s at fits. c.in_ok-slots.ensures.one tells s (ap (λ (m : PageMap). m page) c.loop-page.invariant.map ∙ at) fits) entries
    (c.loop-page.invariant.left tells row entries is on are fit rise) fit rise (c.in-Some.entry.0, c.in-Some.entry.1) (λ l listed. let all = c.in_ok-found.ensures.found l listed in rw c.in-Some.is at all)

pub returns-in-Some-clause-quiet : goal.returns-in-Some-clause-quiet
returns-in-Some-clause-quiet g c = quiet_join g.P.Pages g.met.P.Pages.follows_on c.args.pages.now c.loop-page.pages c.fetch_level.new.pages c.loop-page.invariant.quiet c.in_ok-slots.ensures.quiet

pub loop-page-preserved : goal.loop-page-preserved
loop-page-preserved g c =
    let page = get_or c.args.list.now c.loop-page.page-index 0 in
    record {
      left = λ tells row entries is on are fit rise.
          page_none (g.P.Pages.map c.args.pages.now) c.args.list.now row is on c.loop-page.page-index page c.loop-page-test.true (here c.args.list.now c.loop-page.page-index c.loop-page-test.true)
          c.in_ok-slots.slots (λ s at fits. c.in_ok-slots.ensures.one tells s (ap (λ (m : PageMap). m page) c.loop-page.invariant.map ∙ at) fits) entries
          (c.loop-page.invariant.left tells row entries is on are fit rise) fit rise (λ l listed. let all = c.in_ok-found.ensures.found l listed in rw c.in_default.is at all);
      map = c.in_ok-slots.ensures.map ∙ c.loop-page.invariant.map;
      count = c.in_ok-slots.ensures.count ∙ c.loop-page.invariant.count;
      heap = c.in_ok-slots.ensures.heap (omega arith) tt ∙ c.loop-page.invariant.heap;
      quiet = quiet_join g.P.Pages g.met.P.Pages.follows_on c.args.pages.now c.loop-page.pages c.fetch_level.new.pages c.loop-page.invariant.quiet c.in_ok-slots.ensures.quiet;
    }

pub returns-clause-found : goal.returns-clause-found
returns-clause-found g c = λ tells row entries is on are fit rise.
    next_none entries (left_none entries (items_of (drop c.loop-page.page-index row)) (leaves_end c.args.list.now row c.loop-page.page-index is c.loop-page-test.false)
    (c.loop-page.invariant.left tells row entries is on are fit rise))
