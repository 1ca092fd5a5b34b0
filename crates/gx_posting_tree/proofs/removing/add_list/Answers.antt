use Rattle.gx_tree.proofs.Causes.{broken_is}
use Rattle.gx_posting_tree.proofs.Kept.{page_full}
use Rattle.gx_posting_tree.proofs.removing.add_list.Goals as goal

pub returns-in-Err-clause-cause : goal.returns-in-Err-clause-cause
returns-in-Err-clause-cause c =
    broken_is c.no_list.result c.args.page _ c.no_list.ensures
    (λ items is. page_full c.args.to.now items c.args.list.now c.in-Err.field-0.free is c.in-Err.ensures.refused.0 c.in-Err.ensures.refused.1)
