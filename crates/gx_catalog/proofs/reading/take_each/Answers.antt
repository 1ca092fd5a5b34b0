use Rattle.gx_catalog.proofs.Fronts.{taken_more, taken_none}
use Rattle.gx_catalog.proofs.reading.take_each.Goals as goal

pub returns-in_default : goal.returns-in_default
returns-in_default c =
    let none = rw c.in_default.is at c.in_ok-column.ensures in
    taken_none c.args.bytes.now c.loop.rest.now c.loop.columns c.loop.counter c.args.count c.loop.invariant c.loop-test.true none

pub loop-preserved : goal.loop-preserved
loop-preserved c =
    let some = rw c.in-Some.is at c.in_ok-column.ensures in
    taken_more c.args.bytes.now c.loop.rest.now c.in-Some.behind.now c.loop.columns c.push.new.self c.in-Some.column c.loop.counter c.loop.invariant some c.in_ok-push.ensures.ok
