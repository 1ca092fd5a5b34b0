-- A label more.
use Rattle.std.proofs.Common.{length, arith}
use Rattle.gx_class_ltree.specs.Keys.{front}
use Rattle.gx_class_ltree.proofs.PartFacts.{one_more}
use Rattle.gx_class_ltree.proofs.parts.front_count.Goals as goal

pub loop-label-preserved : goal.loop-label-preserved
loop-label-preserved c =
    let before = c.loop-label.invariant.0 in
    let room = c.loop-label.invariant.1 in (
      omega (arith, before),
      omega (arith, room),
      one_more c.args.labels.now c.loop-label.label-index c.loop-label.room c.saturating_add-taken.result c.loop-label.count (length (front 600 c.args.labels.now)) c.label-item.result c.loop-label-test.true c.label-item.is
          (omega (arith, c.saturating_add-taken.ensures, c.len.ensures, c.if-taken-room.false, room)) (omega (arith, c.if-taken-room.false)) c.loop-label.invariant.2,
    )
