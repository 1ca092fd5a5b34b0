use Rattle.gx_gist_tree.proofs.OneTree.{one_whole}
use Rattle.gx_gist_tree.proofs.laws.one_tree.Goals as goal

pub returns : goal.returns
returns g c = λ map count root tree other few.
    let class = c.args.class.now in
    one_whole g.C.GistClass class (λ a b va vb. g.met.C.GistClass.one_spelling class a b c.requires va vb) (λ v ok. g.met.C.GistClass.leaf_is_valid class v c.requires ok) map count few root tree other
