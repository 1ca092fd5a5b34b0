use Rattle.std.proofs.Common.{◌≡◌, ◌+◌, ◌≤◌, ◌<◌, ◌∷◌, [], ◌++◌, ◌∙◌, ℕ, List, length, drop, get_or, sym, ap, refl, arith}
use Rattle.std.proofs.lemmas.Result.{err_from_is_err_and}
use Rattle.gx_words.specs.PageMap.{PageMap}
use Rattle.gx_pages.proofs.Footprints.{cause_weaker, quiet_join, quiet_none}
use Rattle.gx_tree.specs.Trees.{Leaf, items_of}
use Rattle.gx_tree.proofs.Lists.{at_place}
use Rattle.gx_tree.proofs.Causes.{broken_or}
use Rattle.gx_tree.proofs.Walks.{leaf_found, leaf_sound, leaves_end}
use Rattle.gx_gin_entry.specs.EntryTrees.{Entry}
use Rattle.gx_gin_entry.specs.Listed.{entries_of}
use Rattle.gx_gin_entry.proofs.AllOf.{listed_here, lists_all, lists_leaf, lists_none, parts}
use Rattle.gx_gin_entry.proofs.listing.leaf_entries.Goals as goal

here : (list : List ℕ) (i : ℕ) (below : i < length list) → get_or list i (get_or list i 0) ≡ get_or list i 0
here list i below = (at_place list i below).is (get_or list i 0) ∙ sym ((at_place list i below).is 0)

pub loop-page-init : goal.loop-page-init
loop-page-init g c = record {
  lists = λ tells row entries is on spelled are rising. lists_none (entries_of c.args.to.now.items) entries (items_of row) spelled are rising;
  map = refl;
  count = refl;
  heap = refl;
  fetches = omega arith;
  quiet = quiet_none g.P.Pages g.met.P.Pages.follows_itself c.args.pages.now;
}

pub returns-in_err-slots-clause-quiet : goal.returns-in_err-slots-clause-quiet
returns-in_err-slots-clause-quiet g c = quiet_join g.P.Pages g.met.P.Pages.follows_on c.args.pages.now c.loop-page.pages c.fetch_level.new.pages c.loop-page.invariant.quiet c.in_err-slots.ensures.quiet

pub returns-in_err-push_entries-clause-quiet : goal.returns-in_err-push_entries-clause-quiet
returns-in_err-push_entries-clause-quiet g c = quiet_join g.P.Pages g.met.P.Pages.follows_on c.args.pages.now c.loop-page.pages c.fetch_level.new.pages c.loop-page.invariant.quiet c.in_ok-slots.ensures.quiet

pub returns-in_err-slots-clause-cause : goal.returns-in_err-slots-clause-cause
returns-in_err-slots-clause-cause g c =
    let p = err_from_is_err_and c.from_residual.result c.from_residual.ensures.1 in
    rw (p.1, p.2)
    (cause_weaker c.in_err-slots.field-0.0 (g.P.Pages.faults c.args.pages.now) (g.P.Pages.faults c.loop-page.pages) (g.P.Pages.faults c.fetch_level.new.pages) (g.P.Pages.faults c.fetch_level.new.pages)
    _ _ _ _ _ _ (let q = c.loop-page.invariant.quiet.faults in omega arith) (omega arith) (λ at expected found broken tells row entries is on below spelled are rising.
    leaf_sound (g.P.Pages.map c.args.pages.now) 5 c.args.list.now row is on c.loop-page.page-index (get_or c.args.list.now c.loop-page.page-index 0) c.loop-page-test.true
    (here c.args.list.now c.loop-page.page-index c.loop-page-test.true) (g.P.Pages.count c.args.pages.now) below
    (λ slots at fits kinds levels some few. broken tells slots (ap (λ (m : PageMap). m (get_or c.args.list.now c.loop-page.page-index 0)) c.loop-page.invariant.map ∙ at) fits kinds levels some (let same = c.loop-page.invariant.count in omega (arith, few, same))))
    (λ n none. absurd none) (λ none. absurd none) c.in_err-slots.ensures.cause)

pub returns-in_err-push_entries-clause-cause : goal.returns-in_err-push_entries-clause-cause
returns-in_err-push_entries-clause-cause g c =
    let p = err_from_is_err_and c.from_residual-in_err-push_entries.result c.from_residual-in_err-push_entries.ensures.1 in
    let old = c.args.pages.now in
    let page = get_or c.args.list.now c.loop-page.page-index 0 in
    let i = c.loop-page.page-index in
    rw (p.1, p.2)
    (broken_or c.in_err-push_entries.field-0.0 page (g.P.Pages.faults old) (g.P.Pages.faults c.fetch_level.new.pages) _ _ _ _ c.in_err-push_entries.ensures.cause
    (λ refused at expected found tells row entries is on below spelled are rising.
    let one = leaf_found (g.P.Pages.map old) 5 c.args.list.now row is on i page c.loop-page-test.true (here c.args.list.now i c.loop-page-test.true)
    c.in_ok-slots.slots (λ s at fits. c.in_ok-slots.ensures.one tells s (ap (λ (m : PageMap). m page) c.loop-page.invariant.map ∙ at) fits) in
    let lists = c.loop-page.invariant.lists tells row entries is on spelled are rising in
    refused (parts (g.P.Pages.map old) c.args.list.now row is on i page c.loop-page-test.true (here c.args.list.now i c.loop-page-test.true) (entries_of c.args.to.now.items) (entries_of c.loop-page.to.items) entries lists).left
    (listed_here (g.P.Pages.map old) c.args.list.now row is on i page c.loop-page-test.true (here c.args.list.now i c.loop-page-test.true) (entries_of c.args.to.now.items) (entries_of c.loop-page.to.items) entries lists c.in_ok-slots.slots.items one))
    tt)

pub loop-page-preserved : goal.loop-page-preserved
loop-page-preserved g c =
    let old = c.args.pages.now in
    let i = c.loop-page.page-index in
    let page = get_or c.args.list.now i 0 in
    record {
      lists = λ tells row entries is on spelled are rising.
          let one = leaf_found (g.P.Pages.map old) 5 c.args.list.now row is on i page c.loop-page-test.true (here c.args.list.now i c.loop-page-test.true)
          c.in_ok-slots.slots (λ s at fits. c.in_ok-slots.ensures.one tells s (ap (λ (m : PageMap). m page) c.loop-page.invariant.map ∙ at) fits) in
          let lists = c.loop-page.invariant.lists tells row entries is on spelled are rising in
          let mine = parts (g.P.Pages.map old) c.args.list.now row is on i page c.loop-page-test.true (here c.args.list.now i c.loop-page-test.true) (entries_of c.args.to.now.items) (entries_of c.loop-page.to.items) entries lists in
          lists_leaf (g.P.Pages.map old) c.args.list.now row is on i page c.loop-page-test.true (here c.args.list.now i c.loop-page-test.true) (entries_of c.args.to.now.items) (entries_of c.loop-page.to.items) entries lists
          (entries_of c.push_entries.new.to.items)
          (c.in_ok-push_entries.ensures.ok mine.left
          (listed_here (g.P.Pages.map old) c.args.list.now row is on i page c.loop-page-test.true (here c.args.list.now i c.loop-page-test.true) (entries_of c.args.to.now.items) (entries_of c.loop-page.to.items) entries lists c.in_ok-slots.slots.items one));
      map = c.in_ok-slots.ensures.map ∙ c.loop-page.invariant.map;
      count = c.in_ok-slots.ensures.count ∙ c.loop-page.invariant.count;
      heap = c.in_ok-slots.ensures.heap (omega arith) tt ∙ c.loop-page.invariant.heap;
      fetches = (let before = c.loop-page.invariant.fetches in let more = c.in_ok-slots.ensures.fetches in omega (arith, before, more));
      quiet = quiet_join g.P.Pages g.met.P.Pages.follows_on old c.loop-page.pages c.fetch_level.new.pages c.loop-page.invariant.quiet c.in_ok-slots.ensures.quiet;
    }

pub returns-clause-ok : goal.returns-clause-ok
returns-clause-ok g c = λ tells row entries is on spelled are rising.
    lists_all (entries_of c.args.to.now.items) (entries_of c.loop-page.to.items) entries (items_of (drop c.loop-page.page-index row)) (leaves_end c.args.list.now row c.loop-page.page-index is c.loop-page-test.false)
    (c.loop-page.invariant.lists tells row entries is on spelled are rising)
