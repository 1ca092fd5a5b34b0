use Rattle.std.proofs.lemmas.Bool.Decides.{same_from_decides}
use Rattle.gx_json.specs.Tree.{data_of}
use Rattle.gx_json.specs.Operators.{Contains}
use Rattle.gx_json.specs.Decisions.{holds}
use Rattle.gx_json.proofs.DecisionLemmas.{holds-Decides}
use Rattle.gx_json.proofs.document.Json.contains.Goals as goal

pub returns-clause-decision : goal.returns-clause-decision
returns-clause-decision c =
    same_from_decides c.is_contained.result (holds (Contains (data_of c.args.other.now)) (data_of c.args.self.now)) c.is_contained.ensures (holds-Decides (Contains (data_of c.args.other.now)) (data_of c.args.self.now))
