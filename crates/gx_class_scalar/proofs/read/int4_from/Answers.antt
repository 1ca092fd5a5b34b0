use Rattle.std.proofs.Common.{◌<ℤ◌, FitsSigned, w32, rules, arith}
use Rattle.std.proofs.lemmas.Int.{ints}
use Rattle.gx_class_scalar.proofs.ReadLemmas.{int4_crossed}
use Rattle.gx_class_scalar.proofs.read.int4_from.Goals as goal

pub returns-else-lo-hi : goal.returns-else-lo-hi
returns-else-lo-hi c =
    let low : FitsSigned w32 c.four-lo.result = search rules in
    let high : FitsSigned w32 c.four-hi.result = search rules in
    let lt : c.four-hi.result <ℤ c.four-lo.result = omega (arith, ints, c.if-lo-hi.false) in
    int4_crossed c.args.bytes.now _ _ c.four-lo.result c.four-hi.result low high c.split_at.ensures.front c.split_at.ensures.back c.four-lo.ensures c.four-hi.ensures lt
