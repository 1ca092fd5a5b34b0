-- There are more than the limit as long as some joins are left.
use Rattle.std.proofs.Common.{◌-◌, ◌<◌, length, ap, arith}
use Rattle.gx_class_intset.specs.IntervalLaws.{length-joins}
use Rattle.gx_class_intset.proofs.join.reduce.Goals as goal

pub join_closest-requires : goal.join_closest-requires
join_closest-requires c =
    let few : c.loop-done.done < length c.args.intervals.now.items - c.args.limit = omega (arith, c.loop-done-test.true, c.saturating_sub-many.ensures, c.len.ensures) in
    let all = length-joins c.loop-done.done c.args.intervals.now.items (omega (arith, few)) in
    omega (arith, all, few, ap length c.loop-done.invariant, c.requires)
