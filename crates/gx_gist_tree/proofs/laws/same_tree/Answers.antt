use Rattle.gx_gist_tree.proofs.StayHeld.{held_same}
use Rattle.gx_gist_tree.proofs.laws.same_tree.Goals as goal

pub returns : goal.returns
returns g c = held_same g.C.GistClass c.args.class.now
