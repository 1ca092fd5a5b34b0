use Rattle.std.proofs.Common.{arith}
use Rattle.gx_bytes.proofs.DayLemmas.{few_digits}
use Rattle.gx_bytes.proofs.days.field_of.Goals as goal

pub overflow_cast-result : goal.overflow_cast-result
overflow_cast-result c =
    let numeral = c.is_numeral.ensures.0 c.if-not-is_numeral.false in
    let few = few_digits c.args.digits.now numeral.1 c.requires.few in
    omega (arith, c.in-Some.ensures)

pub unreachable-requires : goal.unreachable-requires
unreachable-requires c =
    let numeral = c.is_numeral.ensures.0 c.if-not-is_numeral.false in
    let few = few_digits c.args.digits.now numeral.1 c.requires.few in
    omega (arith, c.in-None.ensures)
