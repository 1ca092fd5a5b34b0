-- The last gap is the least from its place on.
use Rattle.std.proofs.Common.{◌+◌, ◌-◌, ◌<◌, length, arith}
use Rattle.gx_class_intset.specs.Intervals.{gaps}
use Rattle.gx_class_intset.specs.IntervalLaws.{length-gaps}
use Rattle.gx_class_intset.proofs.JoinFacts.{last_is, gap_there}
use Rattle.gx_class_intset.proofs.join.closest.Goals as goal

pub loop-at-init : goal.loop-at-init
loop-at-init c =
    let within : length c.args.intervals.now - 2 + 1 < length c.args.intervals.now = omega (arith, c.requires) in
    let there = gap_there c.args.intervals.now (length c.args.intervals.now - 2) within in
    let all = length-gaps c.args.intervals.now (omega (arith, c.requires)) in
    (last_is (gaps c.args.intervals.now) (length c.args.intervals.now - 2) there.0 there.1 (omega (arith, all, c.requires)), within)
