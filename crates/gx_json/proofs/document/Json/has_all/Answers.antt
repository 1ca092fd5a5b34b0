use Rattle.std.proofs.lemmas.Bool.Decides.{same_from_decides}
use Rattle.gx_json.specs.Tree.{data_of}
use Rattle.gx_json.specs.Operators.{HasAll}
use Rattle.gx_json.specs.Decisions.{holds}
use Rattle.gx_json.proofs.DecisionLemmas.{holds-Decides}
use Rattle.gx_json.proofs.document.Json.has_all.Goals as goal

pub returns-clause-decision : goal.returns-clause-decision
returns-clause-decision c =
    same_from_decides c.are_keys.result (holds (HasAll c.args.keys.now) (data_of c.args.self.now)) c.are_keys.ensures (holds-Decides (HasAll c.args.keys.now) (data_of c.args.self.now))
