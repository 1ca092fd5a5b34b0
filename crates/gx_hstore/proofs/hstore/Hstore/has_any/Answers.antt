use Rattle.std.proofs.lemmas.Bool.Decides.{same_from_decides}
use Rattle.gx_hstore.specs.Operators.{HasAny}
use Rattle.gx_hstore.specs.Decisions.{holds}
use Rattle.gx_hstore.proofs.DecisionLemmas.{holds-Decides}
use Rattle.gx_hstore.proofs.hstore.Hstore.has_any.Goals as goal

pub returns-clause-relation : goal.returns-clause-relation
returns-clause-relation c = rw c.pairs.ensures.is at c.is_one_key.ensures

pub returns-clause-decision : goal.returns-clause-decision
returns-clause-decision c =
    same_from_decides c.is_one_key.result (holds (HasAny c.args.keys.now) c.args.self.now) (returns-clause-relation c) (holds-Decides (HasAny c.args.keys.now) c.args.self.now)
