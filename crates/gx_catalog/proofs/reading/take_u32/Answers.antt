use Rattle.std.proofs.Common.{◌≡◌, ◌+◌, ◌<◌, ◌++◌, length, ap, length-append, arith}
use Rattle.gx_bytes.specs.Fields.{le32, length-le32}
use Rattle.gx_catalog.proofs.reading.take_u32.Goals as goal

pub returns-in_err-number : goal.returns-in_err-number
returns-in_err-number c = rw c.from_residual.ensures (λ n rest fits same.
    let short : length c.args.bytes.now < 0 + 4 = c.in_err-number.ensures.none in
    let long = ap length same in
    omega (arith, short, long, length-append (le32 n) rest, length-le32 n))
