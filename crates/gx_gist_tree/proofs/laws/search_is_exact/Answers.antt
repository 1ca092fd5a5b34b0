use Rattle.gx_gist_tree.proofs.TreeFacts.{search_exact}
use Rattle.gx_gist_tree.proofs.laws.search_is_exact.Goals as goal

pub returns : goal.returns
returns g c = λ level node tree.
    let class = c.args.class.now in
    let query = c.args.query.now in
    search_exact (g.C.GistClass.valid_value class) (g.C.GistClass.valid_key class) (g.C.GistClass.leaf_of class) (g.C.GistClass.over class)
    (λ k. g.C.GistClass.leaf_test class k query) (λ k. g.C.GistClass.inner_test class k query)
    (λ k v vk vv is some. g.met.C.GistClass.inner_sees class k v query c.requires.class vk vv c.requires.query is some)
    level node tree
