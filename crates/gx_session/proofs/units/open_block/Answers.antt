use Rattle.std.proofs.Common.{subst}
use Rattle.gx_engine.specs.Engines.{IsIn}
use Rattle.gx_engine.specs.declared.engine.Kind.{Kind}
use Rattle.gx_session.proofs.Moving as moving
use Rattle.gx_session.proofs.units.open_block.Goals as goal

pub returns-clause-moved : goal.returns-clause-moved
returns-clause-moved g c = λ tells session is.
    let b = c.begin_unit.ensures in
    let At : Kind → Type 0 = λ k. IsIn g.P.Pages c.begin_unit.new.store k session in
    moving.opened g.P.Pages c.args.store.now c.begin_unit.new.store session (subst At c.requires.idle (b.is_in tells session is)) b.count b.committed_count b.unmade

pub returns-clause-grows : goal.returns-clause-grows
returns-clause-grows g c = moving.never_same g.P.Pages c.args.store.now c.begin_unit.new.store c.begin_unit.ensures.count c.begin_unit.ensures.committed_count
