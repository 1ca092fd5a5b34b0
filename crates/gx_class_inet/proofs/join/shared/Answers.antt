use Rattle.std.proofs.Common.{sym, ◌∙◌, ◌-◌, ◌+◌, arith}
use Rattle.gx_class_inet.specs.Bits.{shared_missed}
use Rattle.gx_class_inet.proofs.join.shared.Goals as goal

pub loop-lost-preserved : goal.loop-lost-preserved
loop-lost-preserved c =
    c.loop-lost.invariant
    ∙ shared_missed c.args.width c.args.x c.args.y (c.args.limit - c.loop-lost.lost) (c.args.limit - (c.loop-lost.lost + 1)) (omega arith)
    (λ e. c.if-bits.false (c.bits.ensures ∙ e ∙ sym c.bits-in-loop-lost.ensures))
