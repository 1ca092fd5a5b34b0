use Rattle.std.proofs.Common.{inl, inr, refl, sym, ◌∙◌, ap, arith}
use Rattle.gx_model.specs.Replies.{Reply}
use Rattle.gx_model.specs.Turns.{Session, Turned}
use Rattle.gx_parse.specs.Said.{said_of}
use Rattle.gx_engine.specs.Engines.{IsIn, reply_of}
use Rattle.gx_session.specs.Tasks.{after_of, reply_to}
use Rattle.gx_session.proofs.Moving as moving
use Rattle.gx_session.proofs.Results as results
use Rattle.gx_session.proofs.Turning as turning
use Rattle.gx_session.proofs.executing.execute_statement.Goals as goal

pub work-requires-clause-work : goal.work-requires-clause-work
work-requires-clause-work g c = sym c.task_of-task.ensures ∙ c.in-Work.is

pub returns-in-Work-clause-silent : goal.returns-in-Work-clause-silent
returns-in-Work-clause-silent g c = results.if_ok_then c.work.result _ _ (λ reply ordinary e. absurd (ordinary.some e)) c.work.ensures.ordinary

pub returns-in-Work-clause-checkpoint : goal.returns-in-Work-clause-checkpoint
returns-in-Work-clause-checkpoint g c = results.if_ok_then c.work.result _ _ (λ reply ordinary e. absurd (ordinary.other e)) c.work.ensures.ordinary

-- What belongs to the session.

pub answer_task-requires-clause-kind : goal.answer_task-requires-clause-kind
answer_task-requires-clause-kind g c = turning.is_for_task c.args.kind.now (said_of c.args.statement.now) c.task_of-task.result c.task_of-task.ensures

pub returns-in_default-clause-executed : goal.returns-in_default-clause-executed
returns-in_default-clause-executed g c = results.if_ok_both c.answer_task.result _ _ _
    (λ reply same moved tells session text is read.
    let turned : Turned = record { session = after_of c.task_of-task.result session; reply = reply_to c.task_of-task.result; growth = 0 } in
    let m = moved tells session is in
    moving.executed g.P.Pages c.args.store.now c.args.store.now c.answer_task.new.store c.answer_task.new.kind session (after_of c.task_of-task.result session) text (reply_of reply) turned
    (turning.turn_by session text (said_of c.args.statement.now) c.args.kind.now c.task_of-task.result read is.block c.task_of-task.ensures c.in_default.not-Work)
    (inl (same, refl))
    (λ pages h. let most = m.grows pages h in let now = most.now in let made = most.committed in record { now = omega (arith, now); committed = omega (arith, made) })
    refl (moving.unmade_still g.P.Pages c.args.store.now) m)
    c.answer_task.ensures.reply c.answer_task.ensures.moved

pub returns-in_default-clause-stopped : goal.returns-in_default-clause-stopped
returns-in_default-clause-stopped g c = λ err tells session text is read.
    let turned : Turned = record { session = after_of c.task_of-task.result session; reply = reply_to c.task_of-task.result; growth = 0 } in
    inr (moving.stopped g.P.Pages c.args.store.now c.args.store.now c.answer_task.new.store session text turned
    (turning.turn_by session text (said_of c.args.statement.now) c.args.kind.now c.task_of-task.result read is.block c.task_of-task.ensures c.in_default.not-Work)
    refl (moving.unmade_still g.P.Pages c.args.store.now) (c.answer_task.ensures.disk err tells session is))

pub returns-in_default-clause-cause : goal.returns-in_default-clause-cause
returns-in_default-clause-cause g c =
    results.if_cause c.answer_task.result (g.P.Pages.faults c.args.store.now) (g.P.Pages.faults c.args.store.now) (g.P.Pages.faults c.answer_task.new.store) (g.P.Pages.faults c.answer_task.new.store)
    (λ _ _ _. ⊥) (λ at expected found. g.P.Pages.tells → (session : Session) → IsIn g.P.Pages c.args.store.now c.args.kind.now session → ⊥) (λ _. ⊥) (λ _. ⊥) (Unit {0}) (Unit {0})
    (omega arith) (omega arith) (λ p x y h. absurd h) (λ n h. h) (λ m. m) c.answer_task.ensures.cause

pub returns-in_default-clause-silent : goal.returns-in_default-clause-silent
returns-in_default-clause-silent g c = results.if_ok_then c.answer_task.result _ _
    (λ reply same none. (c.answer_task.ensures.still (turning.silent_still c.task_of-task.result c.in_default.not-Work (ap (λ (r : Reply). r.bytes) (sym same) ∙ none))).0) c.answer_task.ensures.reply

pub returns-in_default-clause-checkpoint : goal.returns-in_default-clause-checkpoint
returns-in_default-clause-checkpoint g c = results.if_ok_then c.answer_task.result _ _
    (λ reply is said.
    let which = turning.checkpoint_still c.args.kind.now (said_of c.args.statement.now) c.task_of-task.result c.task_of-task.ensures c.in_default.not-Work
    (ap (λ (r : Reply). r.bytes) (sym is) ∙ said) in
    let still = c.answer_task.ensures.still which.0 in
    (still.0, still.1 ∙ which.1)) c.answer_task.ensures.reply

pub returns-in_default-clause-least : goal.returns-in_default-clause-least
returns-in_default-clause-least g c = λ sound. let heap = c.answer_task.ensures.heap in omega (arith, heap)

pub returns-in-Work-clause-settled : goal.returns-in-Work-clause-settled
returns-in-Work-clause-settled g c = results.on_ok_then c.work.result _ _ (λ settled tells session is before idle. settled tells session is idle) c.work.ensures.settled

pub returns-in_default-clause-vacuumed : goal.returns-in_default-clause-vacuumed
returns-in_default-clause-vacuumed g c = results.if_ok_then c.answer_task.result _ _
    (λ reply same none tells session table is is_vacuum. absurd (turning.vacuum_refused c.args.kind.now (said_of c.args.statement.now) table c.task_of-task.result is_vacuum c.task_of-task.ensures c.in_default.not-Work
    (ap (λ (r : Reply). r.fault) (sym same) ∙ none))) c.answer_task.ensures.reply

pub returns-in_default-clause-grows : goal.returns-in_default-clause-grows
returns-in_default-clause-grows g c = λ tells session text is read turned turns. moving.grows_by g.P.Pages c.args.store.now c.answer_task.new.store turned.growth c.answer_task.ensures.grows
