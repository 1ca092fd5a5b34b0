use Rattle.serde_json.specs.View.{view}
use Rattle.gx_json.proofs.AnswerLemmas.{no_valid_fault}
use Rattle.gx_json.proofs.encoding.valid_document.Goals as goal

pub returns-in_default : goal.returns-in_default
returns-in_default c = no_valid_fault (view c.args.value.now) c.in-Err.fault (c.in-Err.ensures c.in_default.not-Memory)
