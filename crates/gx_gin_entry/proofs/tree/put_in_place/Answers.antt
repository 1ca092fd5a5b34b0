use Rattle.std.proofs.Common.{◌≡◌, ◌≤◌, ◌<◌, ◌+◌, ◌∙◌, ℕ, List, refl, sym, ap, subst, arith}
use Rattle.std.proofs.lemmas.Result.{err_from_is_err_and, on_ok_weaker, IfErr-weaker}
use Rattle.gx_pages.proofs.Footprints.{cause_weaker}
use Rattle.gx_slot.specs.Slots.{Slots}
use Rattle.gx_tree.proofs.Causes.{broken_cause, broken_or}
use Rattle.gx_gin_entry.proofs.Leaves.{entries_same, map_same_later, mid_listed, parts, whole_shorter}
use Rattle.gx_gin_entry.proofs.Maps.{all_unit, not_longer, put_changed, put_done, remove_done, remove_none}
use Rattle.gx_gin_entry.proofs.Stops.{when_false, when_true}
use Rattle.gx_gin_entry.proofs.tree.put_in_place.Goals as goal

pub returns-in_err-leaf-clause-cause : goal.returns-in_err-leaf-clause-cause
returns-in_err-leaf-clause-cause g c =
    let p = err_from_is_err_and c.from_residual.result c.from_residual.ensures.1 in
    rw (p.1, p.2)
    (cause_weaker c.in_err-leaf.field-0.0 (g.P.Pages.faults c.args.pages.now) (g.P.Pages.faults c.args.pages.now) (g.P.Pages.faults c.find_page.new.pages) (g.P.Pages.faults c.find_page.new.pages)
    _ _ _ _ _ _ (omega arith) (omega arith) (λ at expected found none tells list feet free held. none tells list feet held.held) (λ n no. absurd no) (λ m. m) c.in_err-leaf.ensures.cause)

pub returns-in_err-done-clause-cause : goal.returns-in_err-done-clause-cause
returns-in_err-done-clause-cause g c =
    let p = err_from_is_err_and c.from_residual-in_err-done.result c.from_residual-in_err-done.ensures.1 in
    rw (p.1, p.2)
    (broken_or c.in_err-done.field-0.0 c.in_ok-leaf.leaf.page (g.P.Pages.faults c.args.pages.now) (g.P.Pages.faults c.find_page.new.pages) _ _ _ _ c.in_err-done.ensures.cause
    (λ refused at expected found tells list feet free held.
    let inside = parts g.P.Pages c.find_page.new.pages c.args.root list feet (map_same_later g.P.Pages c.args.pages.now c.find_page.new.pages c.args.root list feet c.in_ok-leaf.ensures.map c.in_ok-leaf.ensures.count held.held) c.args.change.now.key.now c.in_ok-leaf.leaf.page c.in_ok-leaf.leaf.slots (c.in_ok-leaf.ensures.found tells list feet held.held) in
    let listed = mid_listed g.P.Pages c.find_page.new.pages c.args.root list feet (map_same_later g.P.Pages c.args.pages.now c.find_page.new.pages c.args.root list feet c.in_ok-leaf.ensures.map c.in_ok-leaf.ensures.count held.held) c.args.change.now.key.now c.in_ok-leaf.leaf.page c.in_ok-leaf.leaf.slots (c.in_ok-leaf.ensures.found tells list feet held.held) in
    refused inside.mid listed) tt)

pub returns-in_err-rewrite_leaf-clause-cause : goal.returns-in_err-rewrite_leaf-clause-cause
returns-in_err-rewrite_leaf-clause-cause g c =
    let p = err_from_is_err_and c.from_residual-in_err-rewrite_leaf.result c.from_residual-in_err-rewrite_leaf.ensures.1 in
    rw (p.1, p.2)
    (cause_weaker c.in_err-rewrite_leaf.field-0.0 (g.P.Pages.faults c.args.pages.now) (g.P.Pages.faults c.find_page.new.pages) (g.P.Pages.faults c.rewrite_leaf.new.pages) (g.P.Pages.faults c.rewrite_leaf.new.pages)
    _ _ _ _ _ _ (let q = c.in_ok-leaf.ensures.quiet.faults in omega (arith, q)) (omega arith)
    (λ at expected found refused tells list feet free held.
    refused tells 5 c.args.root held.held.tree free c.in_ok-leaf.leaf.slots (entries_same g.P.Pages c.args.pages.now c.find_page.new.pages c.args.root list feet free c.in_ok-leaf.ensures.map c.in_ok-leaf.ensures.count held) (c.in_ok-leaf.ensures.found tells list feet held.held))
    (λ n no. absurd no) (λ m. m) c.in_err-rewrite_leaf.ensures.cause)

pub returns-then-done-clause-put : goal.returns-then-done-clause-put
returns-then-done-clause-put g c = λ done tells list feet free held.
    put_done g.P.Pages c.args.pages.now c.find_page.new.pages c.rewrite_leaf.new.pages c.args.root list feet free held c.in_ok-leaf.ensures.map c.in_ok-leaf.ensures.count c.args.change.now.key.now c.in_ok-leaf.leaf.page c.in_ok-leaf.leaf.slots
    (c.in_ok-leaf.ensures.found tells list feet held.held) c.replace_in.new.slots (c.in_ok-rewrite_leaf.ensures.rewritten tells) c.args.change.now.posting.now (c.in_ok-done.ensures.replaced c.if-done.true) c.in_ok-done.ensures.same

pub returns-clause-shorter : goal.returns-clause-shorter
returns-clause-shorter g c = λ done tells list feet free held.
    let inside = parts g.P.Pages c.find_page.new.pages c.args.root list feet (map_same_later g.P.Pages c.args.pages.now c.find_page.new.pages c.args.root list feet c.in_ok-leaf.ensures.map c.in_ok-leaf.ensures.count held.held) c.args.change.now.key.now c.in_ok-leaf.leaf.page c.in_ok-leaf.leaf.slots (c.in_ok-leaf.ensures.found tells list feet held.held) in
    let listed = mid_listed g.P.Pages c.find_page.new.pages c.args.root list feet (map_same_later g.P.Pages c.args.pages.now c.find_page.new.pages c.args.root list feet c.in_ok-leaf.ensures.map c.in_ok-leaf.ensures.count held.held) c.args.change.now.key.now c.in_ok-leaf.leaf.page c.in_ok-leaf.leaf.slots (c.in_ok-leaf.ensures.found tells list feet held.held) in
    whole_shorter g.P.Pages c.find_page.new.pages c.args.root list feet (map_same_later g.P.Pages c.args.pages.now c.find_page.new.pages c.args.root list feet c.in_ok-leaf.ensures.map c.in_ok-leaf.ensures.count held.held) c.args.change.now.key.now c.in_ok-leaf.leaf.page c.in_ok-leaf.leaf.slots (c.in_ok-leaf.ensures.found tells list feet held.held) c.args.change.now.posting.now (c.in_ok-done.ensures.shorter c.if-done.false inside.mid listed)
