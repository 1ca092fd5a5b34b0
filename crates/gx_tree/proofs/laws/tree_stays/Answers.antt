use Rattle.std.proofs.Common.{ℕ}
use Rattle.gx_tree.proofs.Staying.{stays}
use Rattle.gx_tree.proofs.laws.tree_stays.Goals as goal

pub returns : goal.returns
returns g c = λ old new kind root tree before free after rest held keeps apart. stays g.P.Pages old new before free after rest keeps kind root tree held apart
