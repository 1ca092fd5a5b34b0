use Rattle.std.proofs.lemmas.Bool.Decides.{same_from_decides}
use Rattle.gx_hstore.specs.Operators.{HasAll}
use Rattle.gx_hstore.specs.Decisions.{holds}
use Rattle.gx_hstore.proofs.DecisionLemmas.{holds-Decides}
use Rattle.gx_hstore.proofs.hstore.Hstore.has_all.Goals as goal

pub returns-clause-relation : goal.returns-clause-relation
returns-clause-relation c = rw c.pairs.ensures.is at c.are_keys.ensures

pub returns-clause-decision : goal.returns-clause-decision
returns-clause-decision c =
    same_from_decides c.are_keys.result (holds (HasAll c.args.keys.now) c.args.self.now) (returns-clause-relation c) (holds-Decides (HasAll c.args.keys.now) c.args.self.now)
