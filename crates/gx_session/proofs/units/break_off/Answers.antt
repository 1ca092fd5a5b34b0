use Rattle.std.proofs.Common.{arith}
use Rattle.gx_session.proofs.Moving as moving
use Rattle.gx_session.proofs.units.break_off.Goals as goal

pub returns-clause-moved : goal.returns-clause-moved
returns-clause-moved g c = λ tells session keeps.
    let a = c.abandon.ensures in
    moving.broken_off_by g.P.Pages c.args.store.now c.abandon.new.self c.args.kind.now c.broken_off.result session keeps c.broken_off.ensures
    (a.map tells) a.count (a.committed.0 tells) a.committed.1 (record { committed = a.committed.0; left = a.images; time = a.time })

pub returns-clause-unmade : goal.returns-clause-unmade
returns-clause-unmade g c = record { committed = c.abandon.ensures.committed.0; left = c.abandon.ensures.images; time = c.abandon.ensures.time }

pub returns-clause-shrinks : goal.returns-clause-shrinks
returns-clause-shrinks g c = λ pages most.
    let count = c.abandon.ensures.count in
    let committed = c.abandon.ensures.committed.1 in
    record { now = omega (arith, count, most); committed = omega (arith, committed, most) }

pub returns-clause-settled : goal.returns-clause-settled
returns-clause-settled g c = λ tells.
    let a = c.abandon.ensures in
    moving.settled_by g.P.Pages c.args.store.now c.abandon.new.self (a.map tells) a.count (a.committed.0 tells) a.committed.1
