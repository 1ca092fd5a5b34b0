use Rattle.gx_session.proofs.Moving as moving
use Rattle.gx_session.proofs.units.begin_unit.Goals as goal

pub returns-in-Idle-clause-is_in : goal.returns-in-Idle-clause-is_in
returns-in-Idle-clause-is_in g c = λ tells session is.
    let b = c.begin.ensures in
    moving.is_in_on g.P.Pages c.args.store.now c.begin.new.self c.args.kind.now session is (b.map tells) (b.committed.0 tells) b.images

pub returns-in-Idle-clause-unmade : goal.returns-in-Idle-clause-unmade
returns-in-Idle-clause-unmade g c = record { committed = c.begin.ensures.committed.0; left = c.begin.ensures.images; time = c.begin.ensures.time }

pub returns-in_default-clause-unmade : goal.returns-in_default-clause-unmade
returns-in_default-clause-unmade g c = moving.unmade_still g.P.Pages c.args.store.now

pub returns-in_default-clause-beside : goal.returns-in_default-clause-beside
returns-in_default-clause-beside g c = moving.beside_still g.P.Pages c.args.store.now (g.met.P.Pages.follows_itself c.args.store.now)
