use Rattle.std.proofs.Common.{inr, refl}
use Rattle.gx_model.specs.Turns.{session_over}
use Rattle.gx_engine.specs.declared.engine.Kind.TheVariants.{Idle}
use Rattle.gx_session.proofs.Moving as moving
use Rattle.gx_session.proofs.units.roll_back.Goals as goal

pub returns-clause-moved : goal.returns-clause-moved
returns-clause-moved g c = λ tells session keeps.
    let a = c.abandon.ensures in
    moving.given_up g.P.Pages c.args.store.now c.abandon.new.self c.args.kind.now Idle session (session_over session.committed) keeps refl refl refl
    (a.map tells) a.count (a.committed.0 tells) a.committed.1 (record { committed = a.committed.0; left = a.images; time = a.time })

pub returns-clause-settled : goal.returns-clause-settled
returns-clause-settled g c = λ tells.
    let a = c.abandon.ensures in
    moving.settled_by g.P.Pages c.args.store.now c.abandon.new.self (a.map tells) a.count (a.committed.0 tells) a.committed.1

pub returns-clause-grows : goal.returns-clause-grows
returns-clause-grows g c = moving.never_more g.P.Pages c.args.store.now c.abandon.new.self (g.P.Pages.committed_count c.args.store.now) c.abandon.ensures.count c.abandon.ensures.committed.1 (inr refl)
