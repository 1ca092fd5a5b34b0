use Rattle.std.proofs.Common.{rules, Option, subst}
use Rattle.gx_class_scalar.specs.declared.query.ScalarQuery.{ScalarQuery}
use Rattle.gx_opr.specs.Operands.{Right, right_of}
use Rattle.gx_candidates.specs.Queries.{Asks, asks_scalar, IsScalarQuery}
use Rattle.candidate_tests.proofs.Valid.{valid_scalar}
use Rattle.candidate_tests.proofs.asked.scalar_passes.Goals as goal

pub passes_leaf-requires-clause-query : goal.passes_leaf-requires-clause-query
passes_leaf-requires-clause-query c =
    let q : Right = right_of c.args.operand.now.part in
    let P : Option ScalarQuery → Type 0 = λ made. Asks (asks_scalar c.args.op q) (IsScalarQuery c.args.op q) made in
    (search rules, valid_scalar c.args.op q c.in-Some.query c.requires.right (subst P c.in-Some.is c.in_ok-query.ensures))
