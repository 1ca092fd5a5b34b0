use Rattle.std.proofs.Common.{inl, arith}
use Rattle.gx_run.proofs.pieces.settle_after.Goals as goal

pub returns-clause-left : goal.returns-clause-left
returns-clause-left g c = λ tells from at.
    (λ map l. g.met.D.Desk.left tells c.args.desk.now from at map l, record { later = omega arith; nothing_else = λ t m le s. inl s; keeps = λ t m le s. s })
