use Rattle.std.proofs.Common.{sym, ◌∙◌, ap}
use Rattle.gx_parse.specs.declared.outcome.Outcome.{Outcome}
use Rattle.gx_parse.specs.declared.reader.Reader.{Reader}
use Rattle.gx_parse.specs.Outcomes.{limits, outcome_map}
use Rattle.gx_parse.specs.States.{state_of}
use Rattle.gx_parse.proofs.AnswerFacts as facts
use Rattle.gx_parse.proofs.parsing.read.Goals as goal

pub returns-in-Ok-Goes : goal.returns-in-Ok-Goes
returns-in-Ok-Goes c =
    facts.goes_on limits (state_of c.args.reader) (state_of c.in-Ok-Goes.next) c.args.at c.args.token
    (sym (ap (λ (o : Outcome Reader). outcome_map state_of o) c.in-Ok-Goes.field-0-is) ∙ c.in-Ok-Goes.ensures)

pub returns-in-Ok-Wrong : goal.returns-in-Ok-Wrong
returns-in-Ok-Wrong c =
    facts.is_wrong limits (state_of c.args.reader) c.args.at c.args.token
    (sym (ap (λ (o : Outcome Reader). outcome_map state_of o) c.in-Ok-Wrong.field-0-is) ∙ c.in-Ok-Wrong.ensures)

pub returns-in-Ok-Deep : goal.returns-in-Ok-Deep
returns-in-Ok-Deep c =
    facts.is_deep limits (state_of c.args.reader) c.args.at c.args.token
    (sym (ap (λ (o : Outcome Reader). outcome_map state_of o) c.in-Ok-Deep.field-0-is) ∙ c.in-Ok-Deep.ensures)
