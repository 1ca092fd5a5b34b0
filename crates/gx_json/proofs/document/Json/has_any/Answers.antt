use Rattle.std.proofs.lemmas.Bool.Decides.{same_from_decides}
use Rattle.gx_json.specs.Tree.{data_of}
use Rattle.gx_json.specs.Operators.{HasAny}
use Rattle.gx_json.specs.Decisions.{holds}
use Rattle.gx_json.proofs.DecisionLemmas.{holds-Decides}
use Rattle.gx_json.proofs.document.Json.has_any.Goals as goal

pub returns-clause-decision : goal.returns-clause-decision
returns-clause-decision c =
    same_from_decides c.is_one_key.result (holds (HasAny c.args.keys.now) (data_of c.args.self.now)) c.is_one_key.ensures (holds-Decides (HasAny c.args.keys.now) (data_of c.args.self.now))
