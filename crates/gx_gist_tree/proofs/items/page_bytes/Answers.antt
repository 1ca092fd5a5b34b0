use Rattle.gx_bytes.specs.Fields.{le64}
use Rattle.gx_gist_tree.proofs.items.page_bytes.Goals as goal

pub returns : goal.returns
unfolding le64
returns c = c.put_u64.ensures
