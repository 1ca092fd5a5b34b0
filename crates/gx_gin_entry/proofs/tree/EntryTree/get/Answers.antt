use Rattle.std.proofs.Common.{◌≡◌, ◌≤◌, ◌+◌, ℕ, List, Option, arith}
use Rattle.std.proofs.lemmas.Result.{IfErr-weaker, IfOk-weaker}
use Rattle.gx_tree.proofs.Causes.{broken_or}
use Rattle.gx_gin_entry.proofs.Leaves.{map_same_later, mid_listed, parts, whole_found}
use Rattle.gx_gin_entry.proofs.tree.EntryTree.get.Goals as goal

pub returns-clause-found : goal.returns-clause-found
returns-clause-found g c =
    IfOk-weaker c.posting_in.result _ _ (λ found finds tells list feet held.
    let old = c.args.pages.now in
    let mid = c.find_page.new.pages in
    let root = c.args.self.now.page in
    let later = map_same_later g.P.Pages old mid root list feet c.in_ok-leaf.ensures.map c.in_ok-leaf.ensures.count held in
    let leaf = c.in_ok-leaf.ensures.found tells list feet held in
    let inside = parts g.P.Pages mid root list feet (map_same_later g.P.Pages old mid root list feet c.in_ok-leaf.ensures.map c.in_ok-leaf.ensures.count held) c.args.key.now c.in_ok-leaf.leaf.page c.in_ok-leaf.leaf.slots leaf in
    whole_found g.P.Pages mid root list feet (map_same_later g.P.Pages old mid root list feet c.in_ok-leaf.ensures.map c.in_ok-leaf.ensures.count held) c.args.key.now c.in_ok-leaf.leaf.page c.in_ok-leaf.leaf.slots leaf found
    (finds inside.mid (mid_listed g.P.Pages mid root list feet (map_same_later g.P.Pages old mid root list feet c.in_ok-leaf.ensures.map c.in_ok-leaf.ensures.count held) c.args.key.now c.in_ok-leaf.leaf.page c.in_ok-leaf.leaf.slots leaf)))
    c.posting_in.ensures.found

pub returns-clause-cause : goal.returns-clause-cause
returns-clause-cause g c =
    IfErr-weaker c.posting_in.result _ _ (λ error has.
    broken_or error c.in_ok-leaf.leaf.page (g.P.Pages.faults c.args.pages.now) (g.P.Pages.faults c.find_page.new.pages) _ _ _ _ has
    (λ refused at expected found tells list feet held.
    let old = c.args.pages.now in
    let mid = c.find_page.new.pages in
    let root = c.args.self.now.page in
    let leaf = c.in_ok-leaf.ensures.found tells list feet held in
    let inside = parts g.P.Pages mid root list feet (map_same_later g.P.Pages old mid root list feet c.in_ok-leaf.ensures.map c.in_ok-leaf.ensures.count held) c.args.key.now c.in_ok-leaf.leaf.page c.in_ok-leaf.leaf.slots leaf in
    refused inside.mid (mid_listed g.P.Pages mid root list feet (map_same_later g.P.Pages old mid root list feet c.in_ok-leaf.ensures.map c.in_ok-leaf.ensures.count held) c.args.key.now c.in_ok-leaf.leaf.page c.in_ok-leaf.leaf.slots leaf)) tt)
    c.posting_in.ensures.cause
