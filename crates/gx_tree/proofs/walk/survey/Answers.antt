use Rattle.std.proofs.Common.{◌≡◌, ◌≢◌, ◌+◌, ◌-◌, ◌≤◌, ◌<◌, ◌∷◌, [], ◌++◌, ◌∙◌, ◌^◌, ℕ, suc, List, map, length, sym, ap, subst, refl, arith}
use Rattle.std.specs.List.{AllByRecursion}
use Rattle.std.proofs.lemmas.Result.{err_from_is_err_and}
use Rattle.gx_slot.specs.Slots.{Slots}
use Rattle.gx_pages.proofs.Footprints.{cause_weaker}
use Rattle.gx_tree.specs.Trees.{Node, Row, Holds, link, numbers, leaves_of, uppers_of}
use Rattle.gx_tree.proofs.Causes.{broken_or}
use Rattle.gx_tree.proofs.Rows.{root_ends, root_links, root_refused}
use Rattle.gx_tree.proofs.walk.survey.Goals as goal

pub returns-in_err-push_children-clause-cause : goal.returns-in_err-push_children-clause-cause
returns-in_err-push_children-clause-cause g c =
    let p = err_from_is_err_and c.from_residual.result c.from_residual.ensures.1 in
    rw (p.1, p.2)
    (broken_or c.in_err-push_children.field-0.0 c.args.root (g.P.Pages.faults c.args.pages.now) (g.P.Pages.faults c.args.pages.now) _ _ _ _ c.in_err-push_children.ensures.cause
    (λ refused at expected found tells level node held is.
    root_links (g.P.Pages.map c.args.pages.now) (g.P.Pages.count c.args.pages.now) c.args.kind c.args.root level node held (g.met.P.Pages.bounded c.args.pages.now) c.args.top.now is refused)
    tt)

pub returns-in_err-leaves-clause-cause : goal.returns-in_err-leaves-clause-cause
returns-in_err-leaves-clause-cause g c =
    let p = err_from_is_err_and c.from_residual-in_err-leaves.result c.from_residual-in_err-leaves.ensures.1 in
    let pushed : c.push.new.self.items ≡ c.args.root ∷ [] = c.in-Ok.ensures.items ∙ ap (λ (l : List ℕ). l ++ c.args.root ∷ []) c.new-uppers.ensures.items in
    rw (p.1, p.2)
    (cause_weaker c.in_err-leaves.field-0.0 (g.P.Pages.faults c.args.pages.now) (g.P.Pages.faults c.args.pages.now) (g.P.Pages.faults c.leaves_below.new.pages) (g.P.Pages.faults c.leaves_below.new.pages)
    _ _ _ _ _ _ (omega arith) (omega arith) (λ at expected found refused tells level node held is.
    root_refused (g.P.Pages.map c.args.pages.now) (g.P.Pages.count c.args.pages.now) c.args.kind c.args.root level node held (g.met.P.Pages.bounded c.args.pages.now) c.args.top.now is
    c.push_children.new.to.items
    (λ items are fit. c.in_ok-push_children.ensures.ok items are fit ∙ ap (λ (l : List ℕ). l ++ map (λ (i : List ℕ × ℕ). i.1) items) c.new-row.ensures.items)
    (c.level.result - 1) (ap (λ (n : ℕ). n - 1) c.level.ensures)
    (λ nodes row. refused tells nodes (subst (λ (l : List ℕ). Row (g.P.Pages.map c.args.pages.now) (g.P.Pages.count c.args.pages.now) c.args.kind l c.push_children.new.to.items (c.level.result - 1) nodes) (sym pushed) row)))
    (λ n no. absurd no) (λ m. m) c.in_err-leaves.ensures.cause)

pub returns-clause-found : goal.returns-clause-found
returns-clause-found g c = λ tells level node held is.
    let pushed : c.push.new.self.items ≡ c.args.root ∷ [] = c.in-Ok.ensures.items ∙ ap (λ (l : List ℕ). l ++ c.args.root ∷ []) c.new-uppers.ensures.items in
    root_ends (g.P.Pages.map c.args.pages.now) (g.P.Pages.count c.args.pages.now) c.args.kind c.args.root level node held (g.met.P.Pages.bounded c.args.pages.now) c.args.top.now is
    c.push_children.new.to.items
    (λ items are fit. c.in_ok-push_children.ensures.ok items are fit ∙ ap (λ (l : List ℕ). l ++ map (λ (i : List ℕ × ℕ). i.1) items) c.new-row.ensures.items)
    (c.level.result - 1) (ap (λ (n : ℕ). n - 1) c.level.ensures)
    c.in_ok-leaves.leaves.items c.leaves_below.new.uppers.items
    (λ nodes row.
    let both = c.in_ok-leaves.ensures.found tells nodes (subst (λ (l : List ℕ). Row (g.P.Pages.map c.args.pages.now) (g.P.Pages.count c.args.pages.now) c.args.kind l c.push_children.new.to.items (c.level.result - 1) nodes) (sym pushed) row) in
    (both.0, both.1 ∙ ap (λ (l : List ℕ). l ++ uppers_of (c.level.result - 1) nodes) pushed))
