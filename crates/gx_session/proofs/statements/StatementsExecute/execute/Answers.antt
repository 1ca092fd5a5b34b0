use Rattle.std.proofs.Common.{inl, refl, subst, arith}
use Rattle.std.proofs.lemmas.Result.{err_from_is_err_and}
use Rattle.gx_model.specs.Turns.{Session, refused, refused_in, reading_of}
use Rattle.gx_engine.specs.Engines.{IsIn, reply_of}
use Rattle.gx_session.specs.Readings.{IsReading, IsSoundReading}
use Rattle.gx_session.specs.declared.reading.Reading.{Reading}
use Rattle.gx_session.proofs.Moving as moving
use Rattle.gx_session.proofs.Pieces as pieces
use Rattle.gx_session.proofs.Results as results
use Rattle.gx_session.proofs.Turning as turning
use Rattle.gx_session.proofs.statements.StatementsExecute.execute.Goals as goal

-- Where there is no memory to read the piece.

pub returns-in_err-reading-clause-stopped : goal.returns-in_err-reading-clause-stopped
returns-in_err-reading-clause-stopped g c = λ err tells session text is read. inl (moving.unmade_still g.P.Pages c.args.store.now)

pub returns-in_err-reading-clause-memory : goal.returns-in_err-reading-clause-memory
returns-in_err-reading-clause-memory g c = λ err tells session is. moving.unmade_still g.P.Pages c.args.store.now

pub returns-in_err-reading-clause-cause : goal.returns-in_err-reading-clause-cause
returns-in_err-reading-clause-cause g c =
    let p = err_from_is_err_and c.from_residual.result c.from_residual.ensures.1 in
    rw (p.1, p.2)
    (results.cause_at_memory c.in_err-reading.field-0.0 (g.P.Pages.faults c.args.store.now) (g.P.Pages.faults c.args.store.now)
    (λ at expected found. g.P.Pages.tells → (session : Session) → IsIn g.P.Pages c.args.store.now c.args.kind.now session → ⊥) (λ _. ⊥) c.in_err-reading.ensures.err)

pub returns-in_err-reading-clause-follows : goal.returns-in_err-reading-clause-follows
returns-in_err-reading-clause-follows g c = g.met.P.Pages.follows_itself c.args.store.now

-- Where it says a statement.

pub execute_statement-requires-clause-grammar : goal.execute_statement-requires-clause-grammar
execute_statement-requires-clause-grammar g c = let Sound : Reading → Type 0 = λ r. IsSoundReading r in subst Sound c.in-Says.is c.in_ok-reading.ensures.sound

pub returns-in-Says-clause-executed : goal.returns-in-Says-clause-executed
returns-in-Says-clause-executed g c = results.if_ok_then c.execute_statement.result _ _
    (λ reply h tells session text is e.
    let Read : Reading → Type 0 = λ r. IsReading (reading_of text) r in
    h tells session text is (subst Read c.in-Says.is (c.in_ok-reading.ensures.read text e))) c.execute_statement.ensures.executed

pub returns-in-Says-clause-stopped : goal.returns-in-Says-clause-stopped
returns-in-Says-clause-stopped g c = λ err tells session text is e.
    let Read : Reading → Type 0 = λ r. IsReading (reading_of text) r in
    c.execute_statement.ensures.stopped err tells session text is (subst Read c.in-Says.is (c.in_ok-reading.ensures.read text e))

pub returns-in-Says-clause-most : goal.returns-in-Says-clause-most
returns-in-Says-clause-most g c = λ tells session text is e.
    let Read : Reading → Type 0 = λ r. IsReading (reading_of text) r in
    c.execute_statement.ensures.most tells session text is (subst Read c.in-Says.is (c.in_ok-reading.ensures.read text e))

pub returns-in-Says-clause-said : goal.returns-in-Says-clause-said
returns-in-Says-clause-said g c = c.execute_statement.ensures.goes.said

pub returns-in-Says-clause-follows : goal.returns-in-Says-clause-follows
returns-in-Says-clause-follows g c = c.execute_statement.ensures.goes.follows

pub returns-in-Says-clause-faults : goal.returns-in-Says-clause-faults
returns-in-Says-clause-faults g c = c.execute_statement.ensures.goes.faults

-- Where it is refused.

pub returns-in-Refused-clause-executed : goal.returns-in-Refused-clause-executed
returns-in-Refused-clause-executed g c = λ tells session text is e.
    let Read : Reading → Type 0 = λ r. IsReading (reading_of text) r in
    let m = c.break_off.ensures.moved tells session (moving.keeps_of g.P.Pages c.args.store.now c.args.kind.now session is) in
    moving.executed g.P.Pages c.args.store.now c.args.store.now c.break_off.new.store c.break_off.new.kind session (refused_in session) text (reply_of c.in-Refused.reply)
    (refused session (reply_of c.in-Refused.reply)) (turning.turn_refused session text (reply_of c.in-Refused.reply) (subst Read c.in-Refused.is (c.in_ok-reading.ensures.read text e)))
    (inl (refl, refl))
    (λ pages h. let most = m.grows pages h in let now = most.now in let made = most.committed in record { now = omega (arith, now); committed = omega (arith, made) })
    refl (moving.unmade_still g.P.Pages c.args.store.now) m

pub returns-in-Refused-clause-silent : goal.returns-in-Refused-clause-silent
returns-in-Refused-clause-silent g c = λ none. let Sound : Reading → Type 0 = λ r. IsSoundReading r in let ordinary = subst Sound c.in-Refused.is c.in_ok-reading.ensures.sound in absurd (ordinary.some none)

pub returns-in-Refused-clause-checkpoint : goal.returns-in-Refused-clause-checkpoint
returns-in-Refused-clause-checkpoint g c = λ same. let Sound : Reading → Type 0 = λ r. IsSoundReading r in let ordinary = subst Sound c.in-Refused.is c.in_ok-reading.ensures.sound in absurd (ordinary.other same)

pub returns-in-Refused-clause-said : goal.returns-in-Refused-clause-said
returns-in-Refused-clause-said g c = c.break_off.ensures.beside.said

pub returns-in-Refused-clause-follows : goal.returns-in-Refused-clause-follows
returns-in-Refused-clause-follows g c = c.break_off.ensures.beside.follows

pub returns-in-Refused-clause-faults : goal.returns-in-Refused-clause-faults
returns-in-Refused-clause-faults g c = c.break_off.ensures.beside.faults

pub returns-in-Refused-clause-least : goal.returns-in-Refused-clause-least
returns-in-Refused-clause-least g c = λ sound. let heap = c.break_off.ensures.beside.heap in omega (arith, heap)

-- What is settled and vacuumed.

pub returns-in-Says-clause-vacuumed : goal.returns-in-Says-clause-vacuumed
returns-in-Says-clause-vacuumed g c = results.if_ok_then c.execute_statement.result _ _
    (λ reply h none tells session text table is e vacuum.
    let Read : Reading → Type 0 = λ r. IsReading (reading_of text) r in
    h none tells session table is (pieces.says_so (reading_of text) _ _ (subst Read c.in-Says.is (c.in_ok-reading.ensures.read text e)) vacuum)) c.execute_statement.ensures.vacuumed

pub returns-in-Refused-clause-settled : goal.returns-in-Refused-clause-settled
returns-in-Refused-clause-settled g c = λ tells session is before idle. c.break_off.ensures.settled tells

pub returns-in-Refused-clause-vacuumed : goal.returns-in-Refused-clause-vacuumed
returns-in-Refused-clause-vacuumed g c = λ none tells session text table is e vacuum.
    let Read : Reading → Type 0 = λ r. IsReading (reading_of text) r in
    absurd (pieces.not_refused (reading_of text) _ _ (subst Read c.in-Refused.is (c.in_ok-reading.ensures.read text e)) vacuum)

-- How many pages there are.

pub returns-in_err-reading-clause-grows : goal.returns-in_err-reading-clause-grows
returns-in_err-reading-clause-grows g c = λ tells session text is e turned turns. moving.grows_by g.P.Pages c.args.store.now c.args.store.now turned.growth (λ pages h. h)

pub returns-in-Says-clause-grows : goal.returns-in-Says-clause-grows
returns-in-Says-clause-grows g c = λ tells session text is e.
    let Read : Reading → Type 0 = λ r. IsReading (reading_of text) r in
    c.execute_statement.ensures.grows tells session text is (subst Read c.in-Says.is (c.in_ok-reading.ensures.read text e))

pub returns-in-Refused-clause-grows : goal.returns-in-Refused-clause-grows
returns-in-Refused-clause-grows g c = λ tells session text is e turned turns.
    moving.grows_by g.P.Pages c.args.store.now c.break_off.new.store turned.growth (λ pages h. c.break_off.ensures.shrinks pages h.committed)
