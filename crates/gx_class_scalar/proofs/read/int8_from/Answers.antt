use Rattle.std.proofs.Common.{◌<ℤ◌, ◌≤ℤ◌, FitsSigned, w64, rules, arith, to_z-of_z}
use Rattle.std.proofs.lemmas.Int.{ints}
use Rattle.gx_class_scalar.proofs.ReadLemmas.{int8_crossed, int8_read}
use Rattle.gx_class_scalar.proofs.read.int8_from.Goals as goal

pub returns-then-lo-hi : goal.returns-then-lo-hi
returns-then-lo-hi c =
    let low : FitsSigned w64 c.eight-lo.result = search rules in
    let high : FitsSigned w64 c.eight-hi.result = search rules in
    let le : c.eight-lo.result ≤ℤ c.eight-hi.result = omega (arith, ints, c.if-lo-hi.true) in
    simp to_z-of_z (int8_read c.args.bytes.now _ _ c.eight-lo.result c.eight-hi.result low high c.split_at.ensures.front c.split_at.ensures.back c.eight-lo.ensures c.eight-hi.ensures le)

pub returns-else-lo-hi : goal.returns-else-lo-hi
returns-else-lo-hi c =
    let low : FitsSigned w64 c.eight-lo.result = search rules in
    let high : FitsSigned w64 c.eight-hi.result = search rules in
    let lt : c.eight-hi.result <ℤ c.eight-lo.result = omega (arith, ints, c.if-lo-hi.false) in
    int8_crossed c.args.bytes.now _ _ c.eight-lo.result c.eight-hi.result low high c.split_at.ensures.front c.split_at.ensures.back c.eight-lo.ensures c.eight-hi.ensures lt
