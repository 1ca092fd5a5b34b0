use Rattle.std.proofs.Common.{◌++◌, ◌∷◌, [], ◌∙◌, ℕ, List, length, map, take, sym, ap, length-append, arith}
use Rattle.std.proofs.lemmas.Result.{err_from_is_err_and}
use Rattle.gx_pages.specs.declared.row.RowRef.{RowRef}
use Rattle.gx_pages.proofs.Footprints.{cause_weaker, quiet_join}
use Rattle.gx_gin_scan.specs.Searches.{item_key, lists_of}
use Rattle.gx_gin_scan.proofs.Walked.{take_whole}
use Rattle.gx_gin_scan.proofs.Reading.{bounds_at, bounds_join, bounds_same, keys_push, lists_at, lists_push}
use Rattle.gx_gin_scan.proofs.searching.rows_of_items.Goals as goal

pub returns-in_err-rows-clause-cause : goal.returns-in_err-rows-clause-cause
returns-in_err-rows-clause-cause g c =
    let p = err_from_is_err_and c.from_residual.result c.from_residual.ensures.1 in
    let old = c.args.pages.now in
    let mid = c.loop-at.pages in
    rw (p.1, p.2)
    (cause_weaker c.in_err-rows.field-0.0 (g.P.Pages.faults old) (g.P.Pages.faults mid) (g.P.Pages.faults c.rows_of_item.new.pages) (g.P.Pages.faults c.rows_of_item.new.pages)
    _ _ _ _ _ _ (let q = c.loop-at.invariant.quiet.faults in omega (arith, q)) (omega arith)
    (λ at expected found refused tells lists feet held.
    refused tells lists feet (lists_at (g.P.Pages.map old) (g.P.Pages.map mid) (g.P.Pages.count old) (g.P.Pages.count mid) c.args.root lists feet c.loop-at.invariant.map c.loop-at.invariant.count held))
    (λ n none. none) (λ m. m) c.in_err-rows.ensures.cause)

pub loop-at-preserved : goal.loop-at-preserved
loop-at-preserved g c =
    let old = c.args.pages.now in
    let mid = c.loop-at.pages in
    let new = c.rows_of_item.new.pages in
    let before = c.loop-at.invariant in
    let items = c.args.items.now in
    let i = c.loop-at.at in
    record {
      lists = λ tells lists feet held.
          c.in-Ok.ensures.items ∙ ap (λ (l : List (List RowRef)). l ++ c.in_ok-rows.rows ∷ []) (before.lists tells lists feet held)
          ∙ ap (λ (l : List RowRef). lists_of lists (take i items) ++ l ∷ [])
          (c.in_ok-rows.ensures.rows tells lists feet (lists_at (g.P.Pages.map old) (g.P.Pages.map mid) (g.P.Pages.count old) (g.P.Pages.count mid) c.args.root lists feet before.map before.count held))
          ∙ sym (lists_push lists items i c.in-Some.item.now c.in-Some.ensures.some);
      length = (let e = ap (λ (l : List (List RowRef)). length l) c.in-Ok.ensures.items in let f = length-append c.loop-at.found.items (c.in_ok-rows.rows ∷ []) in let n = before.length in omega (arith, e, f, n));
      fetches = λ tells. bounds_same (g.P.Pages.map old) (g.P.Pages.count old) c.args.root _ _ _ _ (keys_push items i c.in-Some.item.now c.in-Some.ensures.some)
          (bounds_join (g.P.Pages.map old) (g.P.Pages.count old) c.args.root (map item_key (take i items)) (item_key c.in-Some.item.now ∷ []) (g.P.Pages.fetches old) (g.P.Pages.fetches mid) (g.P.Pages.fetches new) (before.fetches tells)
          (bounds_at (g.P.Pages.map old) (g.P.Pages.map mid) (g.P.Pages.count old) (g.P.Pages.count mid) c.args.root (item_key c.in-Some.item.now ∷ []) (g.P.Pages.fetches mid) (g.P.Pages.fetches new) before.map before.count (c.in_ok-rows.ensures.fetches tells)));
      map = c.in_ok-rows.ensures.map ∙ before.map;
      count = c.in_ok-rows.ensures.count ∙ before.count;
      heap = c.in_ok-rows.ensures.heap tt ∙ before.heap;
      quiet = quiet_join g.P.Pages g.met.P.Pages.follows_on old mid new before.quiet c.in_ok-rows.ensures.quiet;
    }

pub returns-clause-lists : goal.returns-clause-lists
returns-clause-lists g c = λ tells lists feet held.
    c.loop-at.invariant.lists tells lists feet held
    ∙ ap (λ (l : List (List ℕ)). lists_of lists l) (take_whole c.args.items.now c.loop-at.at (let past = c.loop-at-test.false in let len = c.len-at-end.ensures.value in omega (arith, past, len)))

pub returns-clause-fetches : goal.returns-clause-fetches
returns-clause-fetches g c = λ tells.
    let old = c.args.pages.now in
    bounds_same (g.P.Pages.map old) (g.P.Pages.count old) c.args.root _ _ (g.P.Pages.fetches old) (g.P.Pages.fetches c.loop-at.pages)
    (ap (λ (l : List (List ℕ)). map item_key l) (take_whole c.args.items.now c.loop-at.at (let past = c.loop-at-test.false in let len = c.len-at-end.ensures.value in omega (arith, past, len))))
    (c.loop-at.invariant.fetches tells)
