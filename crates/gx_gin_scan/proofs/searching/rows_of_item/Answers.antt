use Rattle.std.proofs.Common.{◌≡◌, ℕ, List, length, ◌∙◌, ap, arith}
use Rattle.std.proofs.lemmas.Result.{on_ok_weaker, IfOk-weaker}
use Rattle.gx_gin_scan.specs.Gins.{pages_under}
use Rattle.gx_gin_scan.specs.Lists.{rows_under}
use Rattle.gx_gin_scan.specs.Searches.{item_key}
use Rattle.gx_gin_scan.proofs.searching.rows_of_item.Goals as goal

pub returns-clause-rows : goal.returns-clause-rows
returns-clause-rows g c =
    let key : c.as_slice.result.now ≡ item_key c.args.item.now = c.as_slice.ensures ∙ c.in_ok-key.ensures.key in
    IfOk-weaker c.rows_of_key.result _ _ (λ found is tells lists feet held. is tells lists feet held ∙ ap (λ (k : List ℕ). rows_under lists k) key) c.rows_of_key.ensures.rows

pub returns-clause-fetches : goal.returns-clause-fetches
returns-clause-fetches g c =
    let old = c.args.pages.now in
    let key : c.as_slice.result.now ≡ item_key c.args.item.now = c.as_slice.ensures ∙ c.in_ok-key.ensures.key in
    on_ok_weaker c.rows_of_key.result (λ is tells lists feet held.
    let few = is tells lists feet held in
    let same = ap (λ (k : List ℕ). length (pages_under (g.P.Pages.map old) (g.P.Pages.count old) held.entries lists held.trees held.are k)) key in
    omega (arith, few, same))
    c.rows_of_key.ensures.fetches
