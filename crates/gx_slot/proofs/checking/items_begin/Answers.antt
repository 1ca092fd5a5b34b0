use Rattle.std.proofs.Common.{arith}
use Rattle.gx_slot.proofs.TableFacts as facts
use Rattle.gx_slot.proofs.checking.items_begin.Goals as goal

pub loop-slot-init : goal.loop-slot-init
loop-slot-init c = facts.table_none c.args.page.now c.requires.len

pub returns-in_default-clause-none : goal.returns-in_default-clause-none
returns-in_default-clause-none c = λ spelled.
    c.in_default.ensures.none
    (facts.entry_spelled c.args.page.now c.loop-slot.slot c.loop-slot.end spelled (let test = c.loop-slot-test.true in let count = c.requires.count in omega (arith, test, count)) c.loop-slot.invariant)

pub loop-slot-preserved : goal.loop-slot-preserved
loop-slot-preserved c = facts.table_more c.args.page.now c.loop-slot.slot c.loop-slot.end c.in-Some.start c.loop-slot.invariant c.in-Some.ensures.some
