use Rattle.std.proofs.Common.{ap}
use Rattle.gx_model.specs.Checks.{fault_of}
use Rattle.gx_target.proofs.ValueFacts.{refused_with}
use Rattle.gx_target.proofs.values.refusal_of.Goals as goal

pub returns-in-NoValue : goal.returns-in-NoValue
returns-in-NoValue c = λ kind literal refuses. refused_with kind literal c.args.error 8 refuses (ap fault_of c.in-NoValue.is)

pub returns-in-OutOfRange : goal.returns-in-OutOfRange
returns-in-OutOfRange c = λ kind literal refuses. refused_with kind literal c.args.error 9 refuses (ap fault_of c.in-OutOfRange.is)

pub returns-in-TooDeep : goal.returns-in-TooDeep
returns-in-TooDeep c = λ kind literal refuses. refused_with kind literal c.args.error 18 refuses (ap fault_of c.in-TooDeep.is)
