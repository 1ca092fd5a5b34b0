use Rattle.std.proofs.Common.{sym, subst}
use Rattle.gx_session.specs.Moves.{Moved, MayHaveMoved}
use Rattle.gx_session.specs.Tasks.{after_of, IsFor, IsStill}
use Rattle.gx_session.specs.declared.task.Task.{Task}
use Rattle.gx_session.proofs.Moving as moving
use Rattle.gx_session.proofs.Results as results
use Rattle.gx_session.proofs.executing.carry_out.Goals as goal

pub returns-in-Silence-clause-moved : goal.returns-in-Silence-clause-moved
returns-in-Silence-clause-moved g c = λ tells session is.
    let At : Task → Type 0 = λ t. Moved g.P.Pages c.args.store.now c.args.store.now c.args.kind.now (after_of t session) in
    subst At (sym c.in-Silence.is) (moving.moved_still g.P.Pages c.args.store.now c.args.kind.now session is)

pub returns-in-Silence-clause-goes : goal.returns-in-Silence-clause-goes
returns-in-Silence-clause-goes g c = moving.goes_still g.P.Pages c.args.store.now (g.met.P.Pages.follows_itself c.args.store.now)

pub returns-in-Answer-clause-moved : goal.returns-in-Answer-clause-moved
returns-in-Answer-clause-moved g c = λ tells session is.
    let At : Task → Type 0 = λ t. Moved g.P.Pages c.args.store.now c.args.store.now c.args.kind.now (after_of t session) in
    subst At (sym c.in-Answer.is) (moving.moved_still g.P.Pages c.args.store.now c.args.kind.now session is)

pub returns-in-Answer-clause-goes : goal.returns-in-Answer-clause-goes
returns-in-Answer-clause-goes g c = moving.goes_still g.P.Pages c.args.store.now (g.met.P.Pages.follows_itself c.args.store.now)

pub returns-in-Work-clause-moved : goal.returns-in-Work-clause-moved
returns-in-Work-clause-moved g c = λ tells session is.
    let At : Task → Type 0 = λ t. Moved g.P.Pages c.args.store.now c.args.store.now c.args.kind.now (after_of t session) in
    subst At (sym c.in-Work.is) (moving.moved_still g.P.Pages c.args.store.now c.args.kind.now session is)

pub returns-in-Work-clause-goes : goal.returns-in-Work-clause-goes
returns-in-Work-clause-goes g c = moving.goes_still g.P.Pages c.args.store.now (g.met.P.Pages.follows_itself c.args.store.now)

pub open_block-requires-clause-idle : goal.open_block-requires-clause-idle
open_block-requires-clause-idle g c = let For : Task → Type 0 = λ t. IsFor c.args.kind.now t in subst For c.in-Open.is c.requires.kind

pub returns-in-Open-clause-moved : goal.returns-in-Open-clause-moved
returns-in-Open-clause-moved g c = λ tells session is.
    let At : Task → Type 0 = λ t. Moved g.P.Pages c.args.store.now c.open_block.new.store c.open_block.new.kind (after_of t session) in
    subst At (sym c.in-Open.is) (c.open_block.ensures.moved tells session is)

pub returns-in-Open-clause-still : goal.returns-in-Open-clause-still
returns-in-Open-clause-still g c = λ still. let Still : Task → Type 0 = λ t. IsStill t in absurd (subst Still c.in-Open.is still)

pub returns-in-Open-clause-goes : goal.returns-in-Open-clause-goes
returns-in-Open-clause-goes g c = moving.goes_beside g.P.Pages c.args.store.now c.open_block.new.store c.open_block.ensures.beside

pub returns-in-Commit-clause-moved : goal.returns-in-Commit-clause-moved
returns-in-Commit-clause-moved g c = results.on_ok_then c.commit.result _ _
    (λ moved tells session is.
    let At : Task → Type 0 = λ t. Moved g.P.Pages c.args.store.now c.commit.new.store c.commit.new.kind (after_of t session) in
    subst At (sym c.in-Commit.is) (moved tells session _ (moving.keeps_of g.P.Pages c.args.store.now c.args.kind.now session is) is.map)) c.commit.ensures.moved

pub returns-in-Commit-clause-disk : goal.returns-in-Commit-clause-disk
returns-in-Commit-clause-disk g c = λ err tells session is.
    let At : Task → Type 0 = λ t. MayHaveMoved g.P.Pages c.args.store.now c.commit.new.store (after_of t session).committed in
    subst At (sym c.in-Commit.is) (c.commit.ensures.disk err tells session _ (moving.keeps_of g.P.Pages c.args.store.now c.args.kind.now session is) is.map)

pub returns-in-Commit-clause-memory : goal.returns-in-Commit-clause-memory
returns-in-Commit-clause-memory g c = λ err tells session is. c.commit.ensures.memory err tells session (moving.keeps_of g.P.Pages c.args.store.now c.args.kind.now session is)

pub returns-in-Commit-clause-still : goal.returns-in-Commit-clause-still
returns-in-Commit-clause-still g c = λ still. let Still : Task → Type 0 = λ t. IsStill t in absurd (subst Still c.in-Commit.is still)

pub returns-in-Commit-clause-goes : goal.returns-in-Commit-clause-goes
returns-in-Commit-clause-goes g c = moving.goes_beside g.P.Pages c.args.store.now c.commit.new.store c.commit.ensures.beside

pub returns-in-RollBack-clause-moved : goal.returns-in-RollBack-clause-moved
returns-in-RollBack-clause-moved g c = λ tells session is.
    let At : Task → Type 0 = λ t. Moved g.P.Pages c.args.store.now c.roll_back.new.store c.roll_back.new.kind (after_of t session) in
    subst At (sym c.in-RollBack.is) (c.roll_back.ensures.moved tells session (moving.keeps_of g.P.Pages c.args.store.now c.args.kind.now session is))

pub returns-in-RollBack-clause-still : goal.returns-in-RollBack-clause-still
returns-in-RollBack-clause-still g c = λ still. let Still : Task → Type 0 = λ t. IsStill t in absurd (subst Still c.in-RollBack.is still)

pub returns-in-RollBack-clause-goes : goal.returns-in-RollBack-clause-goes
returns-in-RollBack-clause-goes g c = moving.goes_beside g.P.Pages c.args.store.now c.roll_back.new.store c.roll_back.ensures.beside

pub returns-in-Refuse-clause-moved : goal.returns-in-Refuse-clause-moved
returns-in-Refuse-clause-moved g c = λ tells session is.
    let At : Task → Type 0 = λ t. Moved g.P.Pages c.args.store.now c.break_off.new.store c.break_off.new.kind (after_of t session) in
    subst At (sym c.in-Refuse.is) (c.break_off.ensures.moved tells session (moving.keeps_of g.P.Pages c.args.store.now c.args.kind.now session is))

pub returns-in-Refuse-clause-still : goal.returns-in-Refuse-clause-still
returns-in-Refuse-clause-still g c = λ still. let Still : Task → Type 0 = λ t. IsStill t in absurd (subst Still c.in-Refuse.is still)

pub returns-in-Refuse-clause-goes : goal.returns-in-Refuse-clause-goes
returns-in-Refuse-clause-goes g c = moving.goes_beside g.P.Pages c.args.store.now c.break_off.new.store c.break_off.ensures.beside

pub returns-in-Open-clause-settled : goal.returns-in-Open-clause-settled
returns-in-Open-clause-settled g c = λ tells session is before idle. absurd (results.begun_not_idle _ (c.open_block.ensures.moved tells session is).is_in.block idle)

pub returns-in-Commit-clause-settled : goal.returns-in-Commit-clause-settled
returns-in-Commit-clause-settled g c = results.on_ok_then c.commit.result _ _
    (λ settled tells session is before idle. settled tells session (moving.keeps_of g.P.Pages c.args.store.now c.args.kind.now session is)) c.commit.ensures.settled

pub returns-in-RollBack-clause-settled : goal.returns-in-RollBack-clause-settled
returns-in-RollBack-clause-settled g c = λ tells session is before idle. c.roll_back.ensures.settled tells

pub returns-in-Refuse-clause-settled : goal.returns-in-Refuse-clause-settled
returns-in-Refuse-clause-settled g c = λ tells session is before idle. c.break_off.ensures.settled tells

pub returns-in-Refuse-clause-grows : goal.returns-in-Refuse-clause-grows
returns-in-Refuse-clause-grows g c = λ pages h. c.break_off.ensures.shrinks pages h.committed
