use Rattle.gx_class_scalar.specs.declared.key.ScalarKey.TheVariants.{Cut}
use Rattle.gx_class_scalar.specs.Readings.{part_with}
use Rattle.gx_class_scalar.proofs.on_bytes.growth_of_spelled.Goals as goal

pub returns-in_ok-cuts : goal.returns-in_ok-cuts
returns-in_ok-cuts c =
    (Cut (part_with c.in_ok-cuts.cuts.low.now c.in_ok-cuts.cuts.low_more) (part_with c.in_ok-cuts.cuts.high.now c.in_ok-cuts.cuts.high_more), c.in_ok-cuts.ensures, c.growth_with.ensures)
