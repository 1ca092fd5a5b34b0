use Rattle.std.proofs.Common.{◌+◌, drop, sym}
use Rattle.gx_tree.proofs.Walks.{slot_next, slot_none, slots_end}
use Rattle.gx_posting_tree.proofs.Read.{reads_all, reads_none, reads_one, reads_refused}
use Rattle.gx_posting_tree.proofs.reading.push_rows.Goals as goal

pub loop-slot-init : goal.loop-slot-init
loop-slot-init c = λ items rows are spelled. reads_none c.args.to.now rows items spelled

pub returns-in_default-clause-cause : goal.returns-in_default-clause-cause
returns-in_default-clause-cause c =
    let is = c.no_list.ensures in
    rw is (
      λ e. cc,
      λ items rows are spelled rising. slot_none c.args.slots.now.items items c.count-slot-end.result c.loop-slot.slot are c.count-slot-end.ensures c.loop-slot-test.true (sym c.in_default.ensures),
    )

pub returns-in-Ok-false-clause-cause : goal.returns-in-Ok-false-clause-cause
returns-in-Ok-false-clause-cause c =
    let is = c.no_list-in-Ok-false.ensures in
    rw is (
      λ e. cc,
      λ items rows are spelled.
          reads_refused c.args.to.now c.loop-slot.to rows (drop c.loop-slot.slot items) (c.loop-slot.invariant items rows are spelled) c.in-Some.item.now (drop (c.loop-slot.slot + 1) items)
          (slot_next c.args.slots.now.items items c.count-slot-end.result c.loop-slot.slot c.in-Some.item.now are c.count-slot-end.ensures c.loop-slot-test.true (sym c.in-Some.ensures))
          (c.in-Ok-false.ensures.refused (cc)),
    )

pub loop-slot-preserved : goal.loop-slot-preserved
loop-slot-preserved c = λ items rows are spelled.
    let read = c.in-Ok-true.ensures.read (cc) in
    reads_one c.args.to.now c.loop-slot.to rows (drop c.loop-slot.slot items) (c.loop-slot.invariant items rows are spelled) c.in-Some.item.now (drop (c.loop-slot.slot + 1) items)
    (slot_next c.args.slots.now.items items c.count-slot-end.result c.loop-slot.slot c.in-Some.item.now are c.count-slot-end.ensures c.loop-slot-test.true (sym c.in-Some.ensures))
    read.0 c.read_posting.new.to read.1 read.2

pub returns-clause-ok : goal.returns-clause-ok
returns-clause-ok c = λ items rows are spelled.
    reads_all c.args.to.now c.loop-slot.to rows (drop c.loop-slot.slot items)
    (slots_end c.args.slots.now.items items c.count-slot-end.result c.loop-slot.slot are c.count-slot-end.ensures c.loop-slot-test.false)
    (c.loop-slot.invariant items rows are spelled)
