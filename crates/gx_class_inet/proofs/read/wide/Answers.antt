-- Sixteen bytes are those of the number that they write.
use Rattle.std.proofs.Common.{ap, ◌∙◌, arith}
use Rattle.std.specs.Int.{w128, from_be_bytes}
use Rattle.gx_bytes.proofs.SixteenBytes.{written_16}
use Rattle.gx_class_inet.proofs.read.wide.Goals as goal

pub returns-in-Ok : goal.returns-in-Ok
returns-in-Ok c =
    written_16 c.args.bytes.now c.from_be_bytes.result c.in-Ok.ensures.1.long (λ i. let f = c.type_inv.bytes i in omega (arith, f))
    (c.from_be_bytes.ensures ∙ ap (from_be_bytes w128) c.in-Ok.ensures.1.same)
