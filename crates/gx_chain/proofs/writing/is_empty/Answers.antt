use Rattle.std.proofs.Common.{◌<◌, [], length, sym, arith}
use Rattle.gx_chain.proofs.Entries.{entries_none}
use Rattle.gx_chain.proofs.Spots.{filled_at}
use Rattle.gx_chain.proofs.writing.is_empty.Goals as goal

pub returns-in-Some-clause-filled : goal.returns-in-Some-clause-filled
returns-in-Some-clause-filled c = λ same page. filled_at page 0 c.args.slots.now.items c.loop-slot.slot c.in-Some._item.now (sym c.in-Some.ensures)

pub loop-slot-preserved : goal.loop-slot-preserved
loop-slot-preserved c = λ page.
    let below : c.loop-slot.slot < length c.args.slots.now.items = let test = c.loop-slot-test.true in omega (arith, test, c.count-slot-end.ensures) in
    sym (entries_none [] [] page c.args.slots.now.items c.loop-slot.slot below (sym c.in_default.ensures) (sym (c.loop-slot.invariant page)))
