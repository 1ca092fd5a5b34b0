-- The pairs of the other map are here, and so are its keys with their values.
use Rattle.std.proofs.lemmas.Bool.Decides.{same_from_decides}
use Rattle.gx_hstore.specs.Operators.{Contains}
use Rattle.gx_hstore.specs.Decisions.{holds}
use Rattle.gx_hstore.proofs.MapLemmas.{contains_each}
use Rattle.gx_hstore.proofs.DecisionLemmas.{holds-Decides}
use Rattle.gx_hstore.proofs.hstore.Hstore.contains.Goals as goal

pub returns-clause-relation : goal.returns-clause-relation
returns-clause-relation c =
    let each = contains_each c.args.self.now c.args.other.now c.pairs-2.ensures.map in
    let all = rw (c.pairs.ensures.is, c.pairs-2.ensures.is) at c.holds_all.ensures in
    (λ t. each.0 (all.0 t), λ m. all.1 (each.1 m))

pub returns-clause-decision : goal.returns-clause-decision
returns-clause-decision c =
    same_from_decides c.holds_all.result (holds (Contains c.args.other.now) c.args.self.now) (returns-clause-relation c) (holds-Decides (Contains c.args.other.now) c.args.self.now)
