use Rattle.std.proofs.Common.{arith}
use Rattle.std.proofs.lemmas.Result.{IfOk-weaker}
use Rattle.gx_value.specs.Values.{Datum}
use Rattle.gx_opr.specs.Operands.{right_of}
use Rattle.gx_candidates.specs.Candidates.{candidate}
use Rattle.gx_index.proofs.Questions.{on_any}
use Rattle.gx_index.proofs.kept.TreeKept.find.Goals as goal

pub returns-clause-found : goal.returns-clause-found
returns-clause-found g c =
    let class = c.args.self.now.class in
    let made = rw c.in-Some.is at c.in-Ok.ensures in
    IfOk-weaker c.find_keys.result _ _ (λ found is tells rows feet h.
    is tells rows feet h (λ (d : Datum). candidate (g.C.KeyClass.named class) (g.C.KeyClass.parameter class) c.args.op (right_of c.args.operand.now.part) d) (λ v valid. made.1.test v))
    c.find_keys.ensures.found

pub returns-clause-fetches : goal.returns-clause-fetches
returns-clause-fetches g c =
    let made = rw c.in-Some.is at c.in-Ok.ensures in
    on_any c.find_keys.result _ (λ tells rows feet most visits.
    let few = c.find_keys.ensures.visits tells rows feet visits.held in
    let least = visits.least c.in-Some.query made.1 in
    omega (arith, few, least))
