use Rattle.std.proofs.Common.{◌<◌, ◌∙◌, sym, length, slice_set, length-set, arith}
use Rattle.std.specs.Option.{option_copied}
use Rattle.gx_slot.specs.Slots.{read}
use Rattle.gx_slot.proofs.ReadFacts as facts
use Rattle.gx_slot.proofs.slot_page.rebuilt.Goals as goal

pub loop-slot-init : goal.loop-slot-init
loop-slot-init c = facts.begun_is c.args.page.now c.new-slots.result c.set_next.new.self c.next_of.result c.new-slots.ensures c.next_of.ensures.next c.set_next.ensures

pub returns-then-is_err-clause-none : goal.returns-then-is_err-clause-none
returns-then-is_err-clause-none c =
    let l : c.loop-slot.slot < length (slice_set (read c.args.page.now).items c.args.at (option_copied c.args.item)) =
    let t = c.loop-slot-test.true in omega (arith, t, c.read_count-slot-end.ensures, length-set (read c.args.page.now).items c.args.at (option_copied c.args.item)) in
    facts.refused_at (slice_set (read c.args.page.now).items c.args.at (option_copied c.args.item)) c.loop-slot.slot (read c.args.page.now) c.loop-slot.slots (option_copied c.part_at.result)
    l c.loop-slot.invariant c.part_at.ensures (facts.err_part c.put.result (sym c.is_err.ensures.value ∙ c.if-is_err.true) c.put.ensures.refused)

pub loop-slot-preserved : goal.loop-slot-preserved
loop-slot-preserved c =
    let l : c.loop-slot.slot < length (slice_set (read c.args.page.now).items c.args.at (option_copied c.args.item)) =
    let t = c.loop-slot-test.true in omega (arith, t, c.read_count-slot-end.ensures, length-set (read c.args.page.now).items c.args.at (option_copied c.args.item)) in
    facts.more_at (slice_set (read c.args.page.now).items c.args.at (option_copied c.args.item)) c.loop-slot.slot (read c.args.page.now) c.loop-slot.slots c.put.new.self (option_copied c.part_at.result)
    l c.loop-slot.invariant c.part_at.ensures (facts.ok_part c.put.result (sym c.is_err.ensures.value ∙ c.if-is_err.false) c.put.ensures.added)
