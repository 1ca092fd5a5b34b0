use Rattle.gx_value.specs.Values.{datum_of}
use Rattle.gx_opr.specs.Decisions as decisions
use Rattle.gx_opr.specs.Operands.{right_of}
use Rattle.gx_opr.specs.Operators.{Holds}
use Rattle.gx_plan.proofs.TruthLemmas.{as_decided}
use Rattle.gx_plan.proofs.bound.is_so.Goals as goal

pub returns-clause-answer : goal.returns-clause-answer
returns-clause-answer c =
    let value = datum_of c.args.value.now in
    let right = right_of c.args.operand.now.part in
    as_decided c.holds.result (decisions.holds c.args.op value right) (Holds c.args.op value right) c.holds.ensures.answer (c.decided.ensures c.args.op value right)
