use Rattle.std.proofs.Common.{◌≡◌, ◌+◌, length, nat_lt, ap, arith}
use Rattle.gx_bytes.specs.Varints.{varint_bytes}
use Rattle.gx_gin_maps.proofs.LengthLemmas.{one_byte, two_bytes}
use Rattle.gx_gin_maps.proofs.lengths.is_long_value.Goals as goal
use Rattle.gx_gin_maps.proofs.lengths.is_long_value.Goals.{then-key-lt128, else-key-lt128}

pub returns : goal.returns
returns c =
    let sum : 1 + c.if-key-lt128.count + c.args.key + c.args.value ≡ length (varint_bytes c.args.key) + c.args.key + c.args.value + 1 =
    elim c.if-key-lt128.branch [
      | then-key-lt128 w ↦ omega (arith, w.count-is, one_byte c.args.key (omega (arith, w.if-key-lt128)))
      | else-key-lt128 w ↦ omega (arith, w.count-is, two_bytes c.args.key (omega (arith, w.if-key-lt128)) (omega arith))
    ] in
    ap (nat_lt 1900) sum
