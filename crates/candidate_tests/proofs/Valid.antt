-- What is read is valid.
use Rattle.std.proofs.Common.{Some, sym, true≢false, refl}
use Rattle.gx_scalar.specs.Values.{kind_of, IsValid}
use Rattle.gx_class_scalar.specs.declared.query.ScalarQuery.{ScalarQuery}
use Rattle.gx_value.specs.declared.operators.Operator.{Operator}
use Rattle.gx_value.specs.Values.{scalar}
use Rattle.gx_opr.specs.Operands.{Right, datum}
use Rattle.gx_candidates.specs.Queries.{Asks, asks_scalar, IsValidRight, IsScalarQuery}

pub valid_scalar : (op : Operator) (q : Right) (query : ScalarQuery) → IsValidRight q → Asks (asks_scalar op q) (IsScalarQuery op q) (Some query) → IsValid query.operand
valid_scalar op (datum (scalar s)) query p asked = (asked.1.valid (kind_of s) (refl, p)).1
valid_scalar op _ query p asked = absurd (true≢false (sym asked.0))
