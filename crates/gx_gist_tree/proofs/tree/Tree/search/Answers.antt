use Rattle.std.proofs.Common.{List}
use Rattle.gx_pages.specs.declared.row.RowRef.{RowRef}
use Rattle.gx_gist_tree.proofs.HeldFacts.{kept_by_cause}
use Rattle.gx_gist_tree.proofs.tree.Tree.search.Goals as goal

pub returns-in_err-rows-clause-heap : goal.returns-in_err-rows-clause-heap
returns-in_err-rows-clause-heap g c = λ tells held holds.
    kept_by_cause (List RowRef) c.in_err-rows.field-0.0 _ _ _ _ _ _ c.in_err-rows.ensures.cause (λ at expected found none. none tells held holds) c.in_err-rows.ensures.other
