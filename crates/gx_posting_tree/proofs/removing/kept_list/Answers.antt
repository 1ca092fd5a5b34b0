use Rattle.std.proofs.Common.{List, sym, subst}
use Rattle.gx_pages.specs.declared.row.RowRef.{RowRef}
use Rattle.gx_pages.specs.Rows.{IsRising}
use Rattle.gx_posting_tree.proofs.Kept.{kept_above}
use Rattle.gx_posting_tree.proofs.removing.kept_list.Goals as goal

pub push_kept-requires : goal.push_kept-requires
push_kept-requires c =
    kept_above c.args.gone.now c.as_slice-list.result.now (subst (λ (l : List RowRef). IsRising l) (sym c.as_slice-list.ensures.value) c.as_slice-list.ensures.rising) c.loop-at.at c.loop-at-test.true
    (record { number = 0; page = 0; slot = 0 }) c.loop-at.last c.loop-at.invariant.last
