use Rattle.std.proofs.lemmas.Bool.Decides.{same_from_decides}
use Rattle.gx_hstore.specs.Operators.{Has}
use Rattle.gx_hstore.specs.Decisions.{holds}
use Rattle.gx_hstore.proofs.DecisionLemmas.{holds-Decides}
use Rattle.gx_hstore.proofs.hstore.Hstore.has.Goals as goal

pub returns-clause-relation : goal.returns-clause-relation
returns-clause-relation c = rw c.pairs.ensures.is at c.is_key.ensures

pub returns-clause-decision : goal.returns-clause-decision
returns-clause-decision c =
    same_from_decides c.is_key.result (holds (Has c.args.key.now) c.args.self.now) (returns-clause-relation c) (holds-Decides (Has c.args.key.now) c.args.self.now)
