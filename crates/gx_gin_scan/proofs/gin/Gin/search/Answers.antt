use Rattle.std.proofs.Common.{◌++◌, ◌∙◌, ℕ, List, map, sym, ap, arith}
use Rattle.std.proofs.lemmas.Result.{IfOk-weaker, err_from_is_err_and}
use Rattle.gx_pages.proofs.Footprints.{cause_weaker}
use Rattle.gx_gin.specs.declared.wanted.Mode.{Mode}
use Rattle.gx_gin_scan.specs.Searches.{item_key, keys_read, more_keys}
use Rattle.gx_gin_scan.proofs.Founds.{search_finds}
use Rattle.gx_gin_scan.proofs.Reading.{bounds_at, bounds_join, bounds_same, lists_at}
use Rattle.gx_gin_scan.proofs.gin.Gin.search.Goals as goal

pub returns-in_err-looked-clause-cause : goal.returns-in_err-looked-clause-cause
returns-in_err-looked-clause-cause g c =
    let p = err_from_is_err_and c.from_residual-in_err-looked.result c.from_residual-in_err-looked.ensures.1 in
    let old = c.args.pages.now in
    let mid = c.rows_of_items.new.pages in
    rw (p.1, p.2)
    (cause_weaker c.in_err-looked.field-0.0 (g.P.Pages.faults old) (g.P.Pages.faults mid) (g.P.Pages.faults c.rows_looked_at.new.pages) (g.P.Pages.faults c.rows_looked_at.new.pages)
    _ _ _ _ _ _ (let q = c.in_ok-lists.ensures.quiet.faults in omega (arith, q)) (omega arith)
    (λ at expected found refused tells lists feet held.
    refused tells lists feet (lists_at (g.P.Pages.map old) (g.P.Pages.map mid) (g.P.Pages.count old) (g.P.Pages.count mid) c.args.self.now.root lists feet c.in_ok-lists.ensures.map c.in_ok-lists.ensures.count held))
    (λ n none. none) (λ m. m) c.in_err-looked.ensures.cause)

pub returns-clause-found : goal.returns-clause-found
returns-clause-found g c =
    let old = c.args.pages.now in
    let mid = c.rows_of_items.new.pages in
    let class = c.args.self.now.class in
    let query = c.args.query.now in
    IfOk-weaker c.pick.result _ _ (λ rows is tells lists feet held all index.
    let lists_are = c.in_ok-lists.ensures.lists tells lists feet held in
    let later = lists_at (g.P.Pages.map old) (g.P.Pages.map mid) (g.P.Pages.count old) (g.P.Pages.count mid) c.args.self.now.root lists feet c.in_ok-lists.ensures.map c.in_ok-lists.ensures.count held in
    search_finds (g.C.GinClass.items_of class) lists all index (g.C.GinClass.mode_of class query) c.in-Ok.wanted.mode (g.C.GinClass.wanted_of class query) c.in-Ok.wanted.items (g.C.GinClass.passes_of class query)
    c.as_slice.result.now c.as_slice-2.result.now c.in_ok-looked.looked.items c.in_ok-rows.rows rows c.in-Ok.ensures.mode c.in-Ok.ensures.items
    (c.as_slice.ensures.value ∙ lists_are) (c.as_slice-2.ensures.value ∙ lists_are) (c.in_ok-looked.ensures.rows tells lists feet later)
    c.in_ok-rows.ensures.rising c.in_ok-rows.ensures.numbers c.in_ok-rows.ensures.rows is)
    c.pick.ensures.found

pub returns-clause-fetches : goal.returns-clause-fetches
returns-clause-fetches g c =
    let old = c.args.pages.now in
    let mid = c.rows_of_items.new.pages in
    let new = c.rows_looked_at.new.pages in
    let class = c.args.self.now.class in
    let query = c.args.query.now in
    let root = c.args.self.now.root in
    IfOk-weaker c.pick.result _ _ (λ rows is narrow tells.
    bounds_same (g.P.Pages.map old) (g.P.Pages.count old) root (map item_key c.in-Ok.wanted.items ++ more_keys c.in-Ok.wanted.mode) (keys_read (g.C.GinClass.mode_of class query) (g.C.GinClass.wanted_of class query))
    (g.P.Pages.fetches old) (g.P.Pages.fetches new)
    (ap (λ (m : Mode). keys_read m c.in-Ok.wanted.items) c.in-Ok.ensures.mode ∙ ap (λ (l : List (List ℕ)). keys_read (g.C.GinClass.mode_of class query) l) c.in-Ok.ensures.items)
    (bounds_join (g.P.Pages.map old) (g.P.Pages.count old) root (map item_key c.in-Ok.wanted.items) (more_keys c.in-Ok.wanted.mode) (g.P.Pages.fetches old) (g.P.Pages.fetches mid) (g.P.Pages.fetches new)
    (c.in_ok-lists.ensures.fetches tells)
    (bounds_at (g.P.Pages.map old) (g.P.Pages.map mid) (g.P.Pages.count old) (g.P.Pages.count mid) root (more_keys c.in-Ok.wanted.mode) (g.P.Pages.fetches mid) (g.P.Pages.fetches new)
    c.in_ok-lists.ensures.map c.in_ok-lists.ensures.count (c.in_ok-looked.ensures.fetches (λ all. narrow (sym c.in-Ok.ensures.mode ∙ all)) tells))))
    c.pick.ensures.found
