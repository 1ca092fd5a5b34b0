use Rattle.std.proofs.Common.{◌∷◌, [], ◌++◌, ◌∙◌, ℕ, List, sym, ap, arith}
use Rattle.std.proofs.lemmas.Result.{err_from_is_err_and}
use Rattle.gx_pages.proofs.Footprints.{cause_weaker}
use Rattle.gx_tree.proofs.Dropped.{held_same, tree_pages, tree_refused}
use Rattle.gx_posting_tree.proofs.Removed.{flat_leaves}
use Rattle.gx_posting_tree.proofs.removing.leaf_list.Goals as goal

pub returns-then-level-eq0-clause-all : goal.returns-then-level-eq0-clause-all
returns-then-level-eq0-clause-all g c = λ tells tree held.
    c.in-Ok.ensures.items ∙ ap (λ (l : List ℕ). l ++ c.args.root ∷ []) c.new-all.ensures.items
    ∙ flat_leaves (g.P.Pages.map c.args.pages.now) (g.P.Pages.count c.args.pages.now) c.args.root c.in_ok-top.top tree held (c.in_ok-top.ensures.top tells tree held) (sym c.level.ensures ∙ c.if-level-eq0.true)

pub returns-in_err-leaves-clause-cause : goal.returns-in_err-leaves-clause-cause
returns-in_err-leaves-clause-cause g c =
    let p = err_from_is_err_and c.from_residual-in_err-leaves.result c.from_residual-in_err-leaves.ensures.1 in
    rw (p.1, p.2)
    (cause_weaker c.in_err-leaves.field-0.0 (g.P.Pages.faults c.args.pages.now) (g.P.Pages.faults c.fetch_top.new.pages) (g.P.Pages.faults c.survey.new.pages) (g.P.Pages.faults c.survey.new.pages)
    _ _ _ _ _ _ (let q = c.in_ok-top.ensures.quiet.faults in omega arith) (omega arith) (λ at expected found refused tells tree held.
    tree_refused (g.P.Pages.map c.fetch_top.new.pages) (g.P.Pages.count c.fetch_top.new.pages) 6 c.args.root c.in_ok-top.top (refused tells) tree
    (held_same (g.P.Pages.map c.args.pages.now) (g.P.Pages.map c.fetch_top.new.pages) (g.P.Pages.count c.args.pages.now) (g.P.Pages.count c.fetch_top.new.pages) 6 c.args.root tree c.in_ok-top.ensures.map c.in_ok-top.ensures.count held)
    (c.in_ok-top.ensures.top tells tree held) (λ flat. c.if-level-eq0.false (c.level.ensures ∙ flat)))
    (λ n no. absurd no) (λ m. m) c.in_err-leaves.ensures.cause)

pub returns-clause-all : goal.returns-clause-all
returns-clause-all g c = λ tells tree held.
    let both = tree_pages (g.P.Pages.map c.fetch_top.new.pages) (g.P.Pages.count c.fetch_top.new.pages) 6 c.args.root c.in_ok-top.top c.in_ok-leaves.field-0.uppers.items c.in_ok-leaves.field-0.leaves.items (c.in_ok-leaves.ensures.found tells) tree
    (held_same (g.P.Pages.map c.args.pages.now) (g.P.Pages.map c.fetch_top.new.pages) (g.P.Pages.count c.args.pages.now) (g.P.Pages.count c.fetch_top.new.pages) 6 c.args.root tree c.in_ok-top.ensures.map c.in_ok-top.ensures.count held)
    (c.in_ok-top.ensures.top tells tree held) (λ flat. c.if-level-eq0.false (c.level.ensures ∙ flat)) in
    let first = c.in_ok-leaves.leaves-is in
    let ends = both.1 in
    cc
