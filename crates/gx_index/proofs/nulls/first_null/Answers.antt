use Rattle.std.proofs.Common.{rules}
use Rattle.gx_chain.specs.Chains.{ListsNone}
use Rattle.gx_index.proofs.NullRows.{broken_weaker, first_made}
use Rattle.gx_index.proofs.nulls.first_null.Goals as goal

pub returns-in_err-tree-clause-cause : goal.returns-in_err-tree-clause-cause
returns-in_err-tree-clause-cause g c =
    broken_weaker c.from_residual-in_err-tree.result _ _ (λ at expected found. g.P.Pages.tells → ListsNone g.P.Pages c.args.pages.now) _ _ _
    (λ at x y none tells free held. none tells free held.frees) (search rules)

pub returns-clause-put : goal.returns-clause-put
returns-clause-put g c tells free held =
    first_made g.P.Pages c.args.pages.now c.create.new.pages c.in_ok-tree.tree.page c.root.result c.args.row c.in_ok-rows.rows free c.root.ensures c.in_ok-rows.ensures.one
    (c.in_ok-tree.ensures.made tells free held.frees)
