use Rattle.std.proofs.Common.{◌≡◌, ◌≤◌, ◌+◌, ◌∙◌, ℕ, List, None, sym, ap, subst, arith}
use Rattle.std.proofs.lemmas.Result.{err_from_is_err_and}
use Rattle.gx_pages.proofs.Footprints.{cause_weaker}
use Rattle.gx_gin_entry.proofs.Leaves.{leaf_found, leaf_level, leaf_refused}
use Rattle.gx_gin_entry.proofs.tree.find_page.Goals as goal

pub returns-in_err-top-clause-cause : goal.returns-in_err-top-clause-cause
returns-in_err-top-clause-cause g c =
    let p = err_from_is_err_and c.from_residual.result c.from_residual.ensures.1 in
    rw (p.1, p.2)
    (cause_weaker c.in_err-top.field-0.0 (g.P.Pages.faults c.args.pages.now) (g.P.Pages.faults c.args.pages.now) (g.P.Pages.faults c.fetch_top.new.pages) (g.P.Pages.faults c.fetch_top.new.pages)
    _ _ _ _ _ _ (omega arith) (omega arith) (λ at expected found none tells list feet held. none tells held.tree held.held) (λ n no. absurd no) (λ no. absurd no) c.in_err-top.ensures.cause)

pub returns-in_err-top-clause-fetches : goal.returns-in_err-top-clause-fetches
returns-in_err-top-clause-fetches g c = λ tells list feet held. let few = c.in_err-top.ensures.fetches in omega (arith, few)

pub returns-in_err-leaf-clause-cause : goal.returns-in_err-leaf-clause-cause
returns-in_err-leaf-clause-cause g c =
    let p = err_from_is_err_and c.from_residual-in_err-leaf.result c.from_residual-in_err-leaf.ensures.1 in
    rw (p.1, p.2)
    (cause_weaker c.in_err-leaf.field-0.0 (g.P.Pages.faults c.args.pages.now) (g.P.Pages.faults c.fetch_top.new.pages) (g.P.Pages.faults c.find_leaf.new.pages) (g.P.Pages.faults c.find_leaf.new.pages)
    _ _ _ _ _ _ (let q = c.in_ok-top.ensures.quiet.faults in omega (arith, q)) (omega arith) (λ at expected found refused tells list feet held.
    leaf_refused g.P.Pages c.args.pages.now c.fetch_top.new.pages c.args.root c.level-level.result c.in_ok-top.top list feet held c.in_ok-top.ensures.map c.in_ok-top.ensures.count
    (c.in_ok-top.ensures.top tells held.tree held.held) c.level-level.ensures (refused tells))
    (λ n no. absurd no) (λ m. m) c.in_err-leaf.ensures.cause)

pub returns-in_err-leaf-clause-fetches : goal.returns-in_err-leaf-clause-fetches
returns-in_err-leaf-clause-fetches g c = λ tells list feet held.
    let first = c.in_ok-top.ensures.fetches in
    let few = c.in_err-leaf.ensures.fetches in
    let level = leaf_level c.level-level.result c.in_ok-top.top held.tree (c.in_ok-top.ensures.top tells held.tree held.held) c.level-level.ensures in
    omega (arith, first, few, level)

pub returns-clause-found : goal.returns-clause-found
returns-clause-found g c = λ tells list feet held.
    leaf_found g.P.Pages c.args.pages.now c.fetch_top.new.pages c.args.root c.level-level.result c.in_ok-top.top list feet held c.in_ok-top.ensures.map c.in_ok-top.ensures.count
    (c.in_ok-top.ensures.top tells held.tree held.held) c.level-level.ensures c.find_leaf.new.pages c.args.sought.now.key.now c.in_ok-leaf.leaf.page c.in_ok-leaf.leaf.slots (sym c.in_ok-leaf.ensures.map) (c.in_ok-leaf.ensures.found tells)

pub returns-clause-fetches : goal.returns-clause-fetches
returns-clause-fetches g c = λ tells list feet held.
    let first = c.in_ok-top.ensures.fetches in
    let few = c.in_ok-leaf.ensures.fetches in
    let level = leaf_level c.level-level.result c.in_ok-top.top held.tree (c.in_ok-top.ensures.top tells held.tree held.held) c.level-level.ensures in
    omega (arith, first, few, level)
