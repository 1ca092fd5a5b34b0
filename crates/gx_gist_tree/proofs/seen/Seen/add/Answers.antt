use Rattle.std.proofs.Common.{◌≡◌, ◌≢◌, ℕ, List, ◌∙◌, sym, subst}
use Rattle.std.specs.List.{AllByRecursion}
use Rattle.gx_gist_tree.proofs.SeenFacts.{met_before}
use Rattle.gx_gist_tree.proofs.seen.Seen.add.Goals as goal

pub returns-then-contains-clause-met : goal.returns-then-contains-clause-met
returns-then-contains-clause-met c = λ no all.
    let same : c.deref.result.now ≡ c.args.self.now = (let v = c.deref.ensures.value in cc) in
    met_before c.args.page c.deref.result.now (sym c.contains.ensures.value ∙ c.if-contains.true)
    (subst (λ (l : List ℕ). AllByRecursion (λ (other : ℕ). c.args.page ≢ other) l) (sym same) all)
