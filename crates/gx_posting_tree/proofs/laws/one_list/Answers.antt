use Rattle.std.proofs.Common.{ℕ, List, sym, ◌∙◌, subst, arith}
use Rattle.gx_tree.proofs.Once.{tree_once}
use Rattle.gx_tree.specs.Trees.{entries}
use Rattle.gx_posting_tree.specs.PostingTrees.{AreSpelled}
use Rattle.gx_posting_tree.proofs.Appended.{one_rows}
use Rattle.gx_posting_tree.proofs.laws.one_list.Goals as goal

pub returns : goal.returns
returns g c = λ pages root rows other feet more first second.
    let same = tree_once (g.P.Pages.map pages) 6 (g.P.Pages.count pages) root (let few = g.met.P.Pages.bounded pages in omega (arith, few)) first.tree second.tree first.held second.held in (
      one_rows (entries first.tree) rows other first.spelled (subst (λ (l : List (List ℕ)). AreSpelled l other) (sym same.0) second.spelled),
      first.stand ∙ same.1 ∙ sym second.stand,
    )
