use Rattle.gx_gist_tree.proofs.InsertFacts.{insert_keeps}
use Rattle.gx_gist_tree.proofs.laws.insert_is_sound.Goals as goal

pub returns : goal.returns
returns g c = λ row key leaf level node out ins tree.
    let class = c.args.class.now in
    let law = g.met.C.GistClass in
    let ok = c.requires.class in
    insert_keeps (g.C.GistClass.valid_value class) (g.C.GistClass.valid_key class) (g.C.GistClass.leaf_of class) (g.C.GistClass.over class) (g.C.GistClass.union_of class)
    (λ v vv. law.leaf_is_valid class v ok vv)
    (λ a b va vb. law.union_is_valid class a b ok va vb)
    (λ v vv. law.over_itself class v ok vv)
    (λ a b v va vb vv h. law.union_over_left class a b v ok va vb vv h)
    (λ a b v va vb vv h. law.union_over_right class a b v ok va vb vv h)
    row key leaf level node out ins tree
