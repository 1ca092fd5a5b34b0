use Rattle.std.proofs.Common.{◌≡◌, ◌≢◌, ◌+◌, ◌-◌, ◌≤◌, ◌<◌, ◌∷◌, [], ◌++◌, ◌∙◌, ℕ, suc, List, map, length, sym, ap, subst, refl, arith}
use Rattle.std.proofs.lemmas.Result.{err_from_is_err_and, IfOk-weaker, IfErr-weaker}
use Rattle.gx_words.specs.PageMap.{PageMap}
use Rattle.gx_pages.proofs.Footprints.{cause_weaker}
use Rattle.gx_tree.specs.Trees.{Node, Row, children, page_of, uppers_of}
use Rattle.gx_tree.proofs.Rows.{row_above, row_ends, row_leaves, row_refused}
use Rattle.gx_tree.proofs.walk.+leaves_below.Goals as goal

pub returns-then-level-eq0-clause-found : goal.returns-then-level-eq0-clause-found
returns-then-level-eq0-clause-found g t c = λ tells nodes is_row.
    row_leaves (g.P.Pages.map c.args.pages.now) (g.P.Pages.count c.args.pages.now) c.args.kind c.args.uppers.now.items c.args.row.items c.args.level c.if-level-eq0.true nodes is_row

pub returns-in_err-next-clause-cause : goal.returns-in_err-next-clause-cause
returns-in_err-next-clause-cause g t c =
    let p = err_from_is_err_and c.from_residual.result c.from_residual.ensures.1 in
    rw (p.1, p.2)
    (cause_weaker c.in_err-next.field-0.0 (g.P.Pages.faults c.args.pages.now) (g.P.Pages.faults c.args.pages.now) (g.P.Pages.faults c.row_below.new.pages) (g.P.Pages.faults c.row_below.new.pages)
    _ _ _ _ _ _ (omega arith) (omega arith) (λ at expected found broken tells.
    row_above (g.P.Pages.map c.args.pages.now) (g.P.Pages.count c.args.pages.now) c.args.kind c.args.uppers.now.items c.args.row.items c.args.level (c.args.level - 1) refl c.if-level-eq0.false
    (λ nodes is_row. broken tells nodes (subst (λ (l : List ℕ). Row (g.P.Pages.map c.args.pages.now) (g.P.Pages.count c.args.pages.now) c.args.kind c.args.uppers.now.items l (suc (c.args.level - 1)) nodes) (sym c.as_slice.ensures.value) is_row)))
    (λ n no. absurd no) (λ m. m) c.in_err-next.ensures.cause)

pub returns-clause-found : goal.returns-clause-found
returns-clause-found g t c =
    IfOk-weaker c.leaves_below.result _ _ (λ leaves found tells.
    row_ends (g.P.Pages.map c.args.pages.now) (g.P.Pages.count c.args.pages.now) c.args.kind c.args.uppers.now.items c.args.row.items c.row_below.new.uppers.items c.in_ok-next.next.items leaves.items c.leaves_below.new.uppers.items
    c.args.level (c.args.level - 1) refl c.if-level-eq0.false
    (λ nodes is_row.
    let both = c.in_ok-next.ensures.found tells nodes (subst (λ (l : List ℕ). Row (g.P.Pages.map c.args.pages.now) (g.P.Pages.count c.args.pages.now) c.args.kind c.args.uppers.now.items l (suc (c.args.level - 1)) nodes) (sym c.as_slice.ensures.value) is_row) in
    (both.0, both.1 ∙ ap (λ (l : List ℕ). c.args.uppers.now.items ++ l) c.as_slice.ensures.value))
    (λ nodes is_row. found tells nodes
    (subst (λ (m : PageMap). Row m (g.P.Pages.count c.row_below.new.pages) c.args.kind c.row_below.new.uppers.items c.in_ok-next.next.items (c.args.level - 1) nodes) (sym c.in_ok-next.ensures.map)
    (subst (λ (n : ℕ). Row (g.P.Pages.map c.args.pages.now) n c.args.kind c.row_below.new.uppers.items c.in_ok-next.next.items (c.args.level - 1) nodes) (sym c.in_ok-next.ensures.count) is_row))))
    c.leaves_below.ensures.found

pub returns-clause-cause : goal.returns-clause-cause
returns-clause-cause g t c =
    IfErr-weaker c.leaves_below.result _ _ (λ error has.
    cause_weaker error (g.P.Pages.faults c.args.pages.now) (g.P.Pages.faults c.row_below.new.pages) (g.P.Pages.faults c.leaves_below.new.pages) (g.P.Pages.faults c.leaves_below.new.pages)
    _ _ _ _ _ _ (let q = c.in_ok-next.ensures.quiet.faults in omega arith) (omega arith) (λ at expected found refused tells.
    row_refused (g.P.Pages.map c.args.pages.now) (g.P.Pages.count c.args.pages.now) c.args.kind c.args.uppers.now.items c.args.row.items c.row_below.new.uppers.items c.in_ok-next.next.items
    c.args.level (c.args.level - 1) refl c.if-level-eq0.false
    (λ nodes is_row.
    let both = c.in_ok-next.ensures.found tells nodes (subst (λ (l : List ℕ). Row (g.P.Pages.map c.args.pages.now) (g.P.Pages.count c.args.pages.now) c.args.kind c.args.uppers.now.items l (suc (c.args.level - 1)) nodes) (sym c.as_slice.ensures.value) is_row) in
    (both.0, both.1 ∙ ap (λ (l : List ℕ). c.args.uppers.now.items ++ l) c.as_slice.ensures.value))
    (λ nodes is_row. refused tells nodes
    (subst (λ (m : PageMap). Row m (g.P.Pages.count c.row_below.new.pages) c.args.kind c.row_below.new.uppers.items c.in_ok-next.next.items (c.args.level - 1) nodes) (sym c.in_ok-next.ensures.map)
    (subst (λ (n : ℕ). Row (g.P.Pages.map c.args.pages.now) n c.args.kind c.row_below.new.uppers.items c.in_ok-next.next.items (c.args.level - 1) nodes) (sym c.in_ok-next.ensures.count) is_row))))
    (λ n no. no) (λ m. m) has)
    c.leaves_below.ensures.cause
