use Rattle.std.proofs.Common.{sym, ◌∙◌, ap, subst}
use Rattle.gx_model.specs.Database.{Database}
use Rattle.gx_model.specs.Turns.{Session}
use Rattle.gx_session.specs.Moves.{Moved, MayHaveMoved}
use Rattle.gx_session.proofs.Moving as moving
use Rattle.gx_session.proofs.Results as results
use Rattle.gx_session.proofs.units.end_unit.Goals as goal

pub returns-in-Idle-clause-moved : goal.returns-in-Idle-clause-moved
returns-in-Idle-clause-moved g c = results.on_ok_then c.commit.result _ _
    (λ moved tells session db keeps stands.
    let At : Session → Type 0 = λ s. Moved g.P.Pages c.args.store.now c.commit.new.store c.commit.new.kind s in
    subst At (sym (moving.outside session.block session.committed db (sym c.in-Idle.is ∙ keeps.block))) (moved tells session db keeps stands)) c.commit.ensures.moved

pub returns-in-Idle-clause-disk : goal.returns-in-Idle-clause-disk
returns-in-Idle-clause-disk g c = λ err tells session db keeps stands.
    let At : Database → Type 0 = λ x. MayHaveMoved g.P.Pages c.args.store.now c.commit.new.store x in
    subst At (sym (ap (λ (s : Session). s.committed) (moving.outside session.block session.committed db (sym c.in-Idle.is ∙ keeps.block)))) (c.commit.ensures.disk err tells session db keeps stands)

pub returns-in_default-clause-moved : goal.returns-in_default-clause-moved
returns-in_default-clause-moved g c = λ tells session db keeps stands.
    moving.seen_inside g.P.Pages c.args.store.now c.args.kind.now session db c.in_default.not-Idle c.requires.sees keeps stands

pub returns-in_default-clause-beside : goal.returns-in_default-clause-beside
returns-in_default-clause-beside g c = moving.beside_still g.P.Pages c.args.store.now (g.met.P.Pages.follows_itself c.args.store.now)

pub returns-in-Idle-clause-settled : goal.returns-in-Idle-clause-settled
returns-in-Idle-clause-settled g c = results.on_ok_then c.commit.result _ _ (λ settled tells session keeps idle. settled tells session keeps) c.commit.ensures.settled

pub returns-in_default-clause-settled : goal.returns-in_default-clause-settled
returns-in_default-clause-settled g c = λ tells session keeps idle. absurd (c.in_default.not-Idle idle)
