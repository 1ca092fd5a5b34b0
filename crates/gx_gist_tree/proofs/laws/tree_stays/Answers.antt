use Rattle.gx_gist_tree.proofs.StayHeld.{held_stays}
use Rattle.gx_gist_tree.proofs.laws.tree_stays.Goals as goal

pub returns : goal.returns
returns g c = held_stays g.P.Pages g.C.GistClass c.args.class.now
