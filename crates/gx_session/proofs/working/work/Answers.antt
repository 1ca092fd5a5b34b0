use Rattle.std.proofs.Common.{inl, inr, Option, sym, ◌∙◌, ap, arith}
use Rattle.std.proofs.lemmas.Result.{err_from_is_err_and}
use Rattle.gx_pages.proofs.Footprints.{cause_weaker}
use Rattle.gx_database.specs.Standing.{StandsFor}
use Rattle.gx_model.specs.Database.{Database}
use Rattle.gx_model.specs.Replies.{Reply}
use Rattle.gx_model.specs.Turns.{Session, seen}
use Rattle.gx_parse.specs.Said.{said_of}
use Rattle.gx_engine.specs.declared.reply.Reply.{Reply as Answered}
use Rattle.gx_engine.specs.Engines.{IsIn, reply_of}
use Rattle.gx_session.proofs.Moving as moving
use Rattle.gx_session.proofs.Results as results
use Rattle.gx_session.proofs.Turning as turning
use Rattle.gx_session.proofs.Works as works
use Rattle.gx_session.proofs.working.work.Goals as goal

-- Where the step ended with an error.

pub returns-in_err-done-clause-stopped : goal.returns-in_err-done-clause-stopped
returns-in_err-done-clause-stopped g c = λ err tells session text is read.
    inl (moving.unmade_then g.P.Pages c.args.store.now c.begin_unit.new.store c.try_step.new.pages c.begin_unit.ensures.beside.said c.begin_unit.ensures.unmade
    (moving.unmade_quiet g.P.Pages c.begin_unit.new.store c.try_step.new.pages c.in_err-done.ensures.quiet))

pub returns-in_err-done-clause-memory : goal.returns-in_err-done-clause-memory
returns-in_err-done-clause-memory g c = λ err tells session is.
    moving.unmade_then g.P.Pages c.args.store.now c.begin_unit.new.store c.try_step.new.pages c.begin_unit.ensures.beside.said c.begin_unit.ensures.unmade
    (moving.unmade_quiet g.P.Pages c.begin_unit.new.store c.try_step.new.pages c.in_err-done.ensures.quiet)

pub returns-in_err-done-clause-cause : goal.returns-in_err-done-clause-cause
returns-in_err-done-clause-cause g c =
    let p = err_from_is_err_and c.from_residual.result c.from_residual.ensures.1 in
    rw (p.1, p.2)
    (cause_weaker c.in_err-done.field-0.0 (g.P.Pages.faults c.args.store.now) (g.P.Pages.faults c.begin_unit.new.store) (g.P.Pages.faults c.try_step.new.pages) (g.P.Pages.faults c.try_step.new.pages)
    (λ at expected found. g.P.Pages.tells → (db : Database) → StandsFor (g.P.Pages.map c.begin_unit.new.store) db → ⊥)
    (λ at expected found. g.P.Pages.tells → (session : Session) → IsIn g.P.Pages c.args.store.now c.args.kind.now session → ⊥) (λ _. ⊥) (λ _. ⊥) (Unit {0}) (Unit {0})
    c.begin_unit.ensures.beside.faults (omega arith) (λ at x y h tells session is. h tells (seen session) (c.begin_unit.ensures.is_in tells session is).map) (λ n h. h) (λ m. m) c.in_err-done.ensures.cause)

pub returns-in_err-done-clause-most : goal.returns-in_err-done-clause-most
returns-in_err-done-clause-most g c = λ tells session text is read n cost.
    c.in_err-done.ensures.most tells (seen session) (c.begin_unit.ensures.is_in tells session is).map n
    (turning.work_costs session text (said_of c.args.statement.now) c.args.kind.now n read is.block c.requires.work cost)

pub returns-in_err-done-clause-least : goal.returns-in_err-done-clause-least
returns-in_err-done-clause-least g c = λ sound.
    let p = err_from_is_err_and c.from_residual.result c.from_residual.ensures.1 in
    let unbroken = rw (p.1, p.2) at sound in
    let least = c.in_err-done.ensures.least (results.sound_as Answered (Option Answered) c.in_err-done.field-0.0 unbroken) in
    let heap = c.begin_unit.ensures.beside.heap in
    omega (arith, least, heap)

pub returns-in_err-done-clause-goes : goal.returns-in_err-done-clause-goes
returns-in_err-done-clause-goes g c =
    moving.goes_then g.P.Pages g.met.P.Pages.follows_on c.args.store.now c.begin_unit.new.store c.try_step.new.pages
    (moving.goes_beside g.P.Pages c.args.store.now c.begin_unit.new.store c.begin_unit.ensures.beside)
    (moving.goes_quiet g.P.Pages c.begin_unit.new.store c.try_step.new.pages c.in_err-done.ensures.quiet)

-- Where the statement was done.

pub settle-requires-clause-sees : goal.settle-requires-clause-sees
settle-requires-clause-sees g c = turning.not_in_failed c.args.kind.now (said_of c.args.statement.now) c.requires.work

pub returns-in-Some-clause-executed : goal.returns-in-Some-clause-executed
returns-in-Some-clause-executed g c = results.if_ok_both c.settle.result _ _ _
    (λ reply same moved tells session text is read.
    let here = c.begin_unit.ensures.is_in tells session is in
    let done = (works.of_some c.in_ok-done.done c.in-Some.reply _ c.in-Some.is c.in_ok-done.ensures.done) tells (seen session) here.map in
    works.executed_so g.P.Pages c.args.store.now c.begin_unit.new.store c.try_step.new.pages c.settle.new.store c.args.kind.now session text (said_of c.args.statement.now)
    is here c.begin_unit.ensures.beside.said c.begin_unit.ensures.unmade c.in_ok-done.ensures.quiet read c.requires.work
    c.settle.new.kind (reply_of c.in-Some.reply) (reply_of reply) c.begin_unit.ensures.count c.begin_unit.ensures.committed_count done (ap reply_of same) (moved tells))
    c.settle.ensures.reply c.settle.ensures.moved

pub returns-in-Some-clause-stopped : goal.returns-in-Some-clause-stopped
returns-in-Some-clause-stopped g c = λ err tells session text is read.
    let here = c.begin_unit.ensures.is_in tells session is in
    let done = (works.of_some c.in_ok-done.done c.in-Some.reply _ c.in-Some.is c.in_ok-done.ensures.done) tells (seen session) here.map in
    inr (works.stopped_so g.P.Pages c.args.store.now c.begin_unit.new.store c.try_step.new.pages c.settle.new.store c.args.kind.now session text (said_of c.args.statement.now)
    is here c.begin_unit.ensures.beside.said c.begin_unit.ensures.unmade c.in_ok-done.ensures.quiet read c.requires.work
    (reply_of c.in-Some.reply) done (c.settle.ensures.disk err tells))

pub returns-in-Some-clause-memory : goal.returns-in-Some-clause-memory
returns-in-Some-clause-memory g c = λ err tells session is.
    let here = c.begin_unit.ensures.is_in tells session is in
    let quiet = c.in_ok-done.ensures.quiet in
    let first = moving.unmade_then g.P.Pages c.args.store.now c.begin_unit.new.store c.try_step.new.pages c.begin_unit.ensures.beside.said c.begin_unit.ensures.unmade
    (moving.unmade_quiet g.P.Pages c.begin_unit.new.store c.try_step.new.pages quiet) in
    moving.unmade_then g.P.Pages c.args.store.now c.try_step.new.pages c.settle.new.store (quiet.said ∙ c.begin_unit.ensures.beside.said) first
    (c.settle.ensures.memory err tells session
    (moving.keeps_on g.P.Pages c.begin_unit.new.store c.try_step.new.pages c.args.kind.now session (moving.keeps_of g.P.Pages c.begin_unit.new.store c.args.kind.now session here) quiet.committed quiet.images))

pub returns-in-Some-clause-cause : goal.returns-in-Some-clause-cause
returns-in-Some-clause-cause g c =
    let before = c.begin_unit.ensures.beside.faults in
    let then = c.in_ok-done.ensures.quiet.faults in
    results.if_cause c.settle.result (g.P.Pages.faults c.args.store.now) (g.P.Pages.faults c.try_step.new.pages) (g.P.Pages.faults c.settle.new.store) (g.P.Pages.faults c.settle.new.store) _ _ _ _ _ _
    (omega (arith, before, then)) (omega arith) (λ p x y h. absurd h) (λ n h. h) (λ m. m) c.settle.ensures.cause

pub returns-in-Some-clause-most : goal.returns-in-Some-clause-most
returns-in-Some-clause-most g c = λ tells session text is read n cost.
    c.in_ok-done.ensures.most tells (seen session) (c.begin_unit.ensures.is_in tells session is).map n
    (turning.work_costs session text (said_of c.args.statement.now) c.args.kind.now n read is.block c.requires.work cost)

pub returns-in-Some-clause-ordinary : goal.returns-in-Some-clause-ordinary
returns-in-Some-clause-ordinary g c =
    let ordinary = works.of_some c.in_ok-done.done c.in-Some.reply _ c.in-Some.is (c.in_ok-done.ensures.ordinary (turning.is_work c.args.kind.now (said_of c.args.statement.now) c.requires.work)) in
    results.if_ok_then c.settle.result _ _ (λ reply same. works.ordinary_as _ _ (sym (ap reply_of same)) ordinary) c.settle.ensures.reply

pub returns-in-Some-clause-least : goal.returns-in-Some-clause-least
returns-in-Some-clause-least g c = λ sound.
    let least = c.in_ok-done.ensures.least tt in
    let heap = c.begin_unit.ensures.beside.heap in
    let later = c.settle.ensures.beside.heap in
    omega (arith, least, heap, later)

pub returns-in-Some-clause-goes : goal.returns-in-Some-clause-goes
returns-in-Some-clause-goes g c =
    moving.goes_then g.P.Pages g.met.P.Pages.follows_on c.args.store.now c.try_step.new.pages c.settle.new.store
    (moving.goes_then g.P.Pages g.met.P.Pages.follows_on c.args.store.now c.begin_unit.new.store c.try_step.new.pages
    (moving.goes_beside g.P.Pages c.args.store.now c.begin_unit.new.store c.begin_unit.ensures.beside)
    (moving.goes_quiet g.P.Pages c.begin_unit.new.store c.try_step.new.pages c.in_ok-done.ensures.quiet))
    (moving.goes_beside g.P.Pages c.try_step.new.pages c.settle.new.store c.settle.ensures.beside)

-- Where there is no room.

pub returns-in-None-clause-executed : goal.returns-in-None-clause-executed
returns-in-None-clause-executed g c = results.if_ok_then c.refused.result _ _
    (λ reply is_20 tells session text is read.
    let here = c.begin_unit.ensures.is_in tells session is in
    let lacks = c.in_ok-done.ensures.full (works.ok_none Answered c.in_ok-done.done c.in-None.is) tells (seen session) here.map in
    works.no_room_so g.P.Pages c.args.store.now c.begin_unit.new.store c.try_step.new.pages c.break_off.new.store c.args.kind.now session text (said_of c.args.statement.now)
    is here c.begin_unit.ensures.beside.said c.begin_unit.ensures.unmade c.in_ok-done.ensures.quiet read c.requires.work
    c.break_off.new.kind (reply_of reply) c.begin_unit.ensures.count c.begin_unit.ensures.committed_count lacks is_20 (c.break_off.ensures.moved tells) c.break_off.ensures.shrinks)
    c.refused.ensures.reply

pub returns-in-None-clause-stopped : goal.returns-in-None-clause-stopped
returns-in-None-clause-stopped g c = λ err tells session text is read. inl (
    moving.unmade_then g.P.Pages c.args.store.now c.try_step.new.pages c.break_off.new.store (c.in_ok-done.ensures.quiet.said ∙ c.begin_unit.ensures.beside.said)
    (moving.unmade_then g.P.Pages c.args.store.now c.begin_unit.new.store c.try_step.new.pages c.begin_unit.ensures.beside.said c.begin_unit.ensures.unmade
    (moving.unmade_quiet g.P.Pages c.begin_unit.new.store c.try_step.new.pages c.in_ok-done.ensures.quiet))
    c.break_off.ensures.unmade)

pub returns-in-None-clause-memory : goal.returns-in-None-clause-memory
returns-in-None-clause-memory g c = λ err tells session is.
    moving.unmade_then g.P.Pages c.args.store.now c.try_step.new.pages c.break_off.new.store (c.in_ok-done.ensures.quiet.said ∙ c.begin_unit.ensures.beside.said)
    (moving.unmade_then g.P.Pages c.args.store.now c.begin_unit.new.store c.try_step.new.pages c.begin_unit.ensures.beside.said c.begin_unit.ensures.unmade
    (moving.unmade_quiet g.P.Pages c.begin_unit.new.store c.try_step.new.pages c.in_ok-done.ensures.quiet))
    c.break_off.ensures.unmade

pub returns-in-None-clause-cause : goal.returns-in-None-clause-cause
returns-in-None-clause-cause g c = results.cause_of_memory c.refused.result _ _ _ _ c.refused.ensures.err

pub returns-in-None-clause-most : goal.returns-in-None-clause-most
returns-in-None-clause-most g c = λ tells session text is read n cost.
    c.in_ok-done.ensures.most tells (seen session) (c.begin_unit.ensures.is_in tells session is).map n
    (turning.work_costs session text (said_of c.args.statement.now) c.args.kind.now n read is.block c.requires.work cost)

pub returns-in-None-clause-least : goal.returns-in-None-clause-least
returns-in-None-clause-least g c = λ sound.
    let least = c.in_ok-done.ensures.least tt in
    let heap = c.begin_unit.ensures.beside.heap in
    let later = c.break_off.ensures.beside.heap in
    omega (arith, least, heap, later)

pub returns-in-None-clause-goes : goal.returns-in-None-clause-goes
returns-in-None-clause-goes g c =
    moving.goes_then g.P.Pages g.met.P.Pages.follows_on c.args.store.now c.try_step.new.pages c.break_off.new.store
    (moving.goes_then g.P.Pages g.met.P.Pages.follows_on c.args.store.now c.begin_unit.new.store c.try_step.new.pages
    (moving.goes_beside g.P.Pages c.args.store.now c.begin_unit.new.store c.begin_unit.ensures.beside)
    (moving.goes_quiet g.P.Pages c.begin_unit.new.store c.try_step.new.pages c.in_ok-done.ensures.quiet))
    (moving.goes_beside g.P.Pages c.try_step.new.pages c.break_off.new.store c.break_off.ensures.beside)

-- What is settled and vacuumed.

pub returns-in-Some-clause-settled : goal.returns-in-Some-clause-settled
returns-in-Some-clause-settled g c = results.on_ok_then c.settle.result _ _
    (λ settled tells session is idle.
    let here = c.begin_unit.ensures.is_in tells session is in
    let quiet = c.in_ok-done.ensures.quiet in
    settled tells session
    (moving.keeps_on g.P.Pages c.begin_unit.new.store c.try_step.new.pages c.args.kind.now session (moving.keeps_of g.P.Pages c.begin_unit.new.store c.args.kind.now session here) quiet.committed quiet.images) idle)
    c.settle.ensures.settled

pub returns-in-None-clause-settled : goal.returns-in-None-clause-settled
returns-in-None-clause-settled g c = results.on_ok_if c.refused.result _ (λ tells session is idle. c.break_off.ensures.settled tells)

pub returns-in-Some-clause-vacuumed : goal.returns-in-Some-clause-vacuumed
returns-in-Some-clause-vacuumed g c = results.if_ok_both c.settle.result _ _ _
    (λ reply same map none tells session table is is_vacuum.
    let here = c.begin_unit.ensures.is_in tells session is in
    let quiet = c.in_ok-done.ensures.quiet in
    let done = (works.of_some c.in_ok-done.done c.in-Some.reply _ c.in-Some.is c.in_ok-done.ensures.done) tells (seen session) here.map in
    let keeps = moving.keeps_on g.P.Pages c.begin_unit.new.store c.try_step.new.pages c.args.kind.now session (moving.keeps_of g.P.Pages c.begin_unit.new.store c.args.kind.now session here) quiet.committed quiet.images in
    works.vacuumed_so g.P.Pages c.begin_unit.new.store c.try_step.new.pages c.settle.new.store c.args.kind.now session (said_of c.args.statement.now) is.block c.requires.work
    (reply_of c.in-Some.reply) (reply_of reply) table done (ap reply_of same) none is_vacuum (map (ap (λ (r : Answered). r.fault) (sym same) ∙ none) tells session keeps))
    c.settle.ensures.reply c.settle.ensures.map

pub returns-in-None-clause-vacuumed : goal.returns-in-None-clause-vacuumed
returns-in-None-clause-vacuumed g c = results.if_ok_then c.refused.result _ _
    (λ reply is_20 none. absurd (results.never 20 (ap (λ (r : Reply). r.fault) (sym is_20) ∙ none))) c.refused.ensures.reply

-- How many pages there are.

pub returns-in_err-done-clause-grows : goal.returns-in_err-done-clause-grows
returns-in_err-done-clause-grows g c = λ tells session text is read turned turns.
    works.grown_so g.P.Pages c.args.store.now c.begin_unit.new.store c.try_step.new.pages c.try_step.new.pages c.args.kind.now session text (said_of c.args.statement.now)
    is (c.begin_unit.ensures.is_in tells session is) c.begin_unit.ensures.beside.said c.begin_unit.ensures.unmade c.in_err-done.ensures.quiet read c.requires.work
    turned turns c.begin_unit.ensures.count c.begin_unit.ensures.committed_count c.in_err-done.ensures.grows tells (λ pages h. h)

pub returns-in-Some-clause-grows : goal.returns-in-Some-clause-grows
returns-in-Some-clause-grows g c = λ tells session text is read turned turns.
    works.grown_so g.P.Pages c.args.store.now c.begin_unit.new.store c.try_step.new.pages c.settle.new.store c.args.kind.now session text (said_of c.args.statement.now)
    is (c.begin_unit.ensures.is_in tells session is) c.begin_unit.ensures.beside.said c.begin_unit.ensures.unmade c.in_ok-done.ensures.quiet read c.requires.work
    turned turns c.begin_unit.ensures.count c.begin_unit.ensures.committed_count c.in_ok-done.ensures.grows tells c.settle.ensures.grows

pub returns-in-None-clause-grows : goal.returns-in-None-clause-grows
returns-in-None-clause-grows g c = λ tells session text is read turned turns.
    works.grown_so g.P.Pages c.args.store.now c.begin_unit.new.store c.try_step.new.pages c.break_off.new.store c.args.kind.now session text (said_of c.args.statement.now)
    is (c.begin_unit.ensures.is_in tells session is) c.begin_unit.ensures.beside.said c.begin_unit.ensures.unmade c.in_ok-done.ensures.quiet read c.requires.work
    turned turns c.begin_unit.ensures.count c.begin_unit.ensures.committed_count c.in_ok-done.ensures.grows tells (λ pages h. c.break_off.ensures.shrinks pages h.committed)
