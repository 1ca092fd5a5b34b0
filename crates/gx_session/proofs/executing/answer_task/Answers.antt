use Rattle.std.proofs.lemmas.Result.{err_from_is_err_and}
use Rattle.gx_pages.specs.declared.error.PageError.TheVariants.{DiskFault, Memory}
use Rattle.gx_session.specs.Tasks.{after_of}
use Rattle.gx_session.proofs.Moving as moving
use Rattle.gx_session.proofs.Results as results
use Rattle.gx_session.proofs.executing.answer_task.Goals as goal

pub returns-in_err-reply-clause-disk : goal.returns-in_err-reply-clause-disk
returns-in_err-reply-clause-disk g c = λ err tells session is. moving.unmoved g.P.Pages c.args.store.now c.args.store.now (after_of c.args.task session).committed (moving.unmade_still g.P.Pages c.args.store.now)

pub returns-in_err-reply-clause-memory : goal.returns-in_err-reply-clause-memory
returns-in_err-reply-clause-memory g c = λ err tells session is. moving.unmade_still g.P.Pages c.args.store.now

pub returns-in_err-reply-clause-cause : goal.returns-in_err-reply-clause-cause
returns-in_err-reply-clause-cause g c =
    let p = err_from_is_err_and c.from_residual.result c.from_residual.ensures.1 in
    rw (p.1, p.2) (results.cause_at_memory c.in_err-reply.field-0.0 (g.P.Pages.faults c.args.store.now) (g.P.Pages.faults c.args.store.now) (λ _ _ _. ⊥) (λ _. ⊥) c.in_err-reply.ensures.err)

pub returns-in_err-reply-clause-goes : goal.returns-in_err-reply-clause-goes
returns-in_err-reply-clause-goes g c = moving.goes_still g.P.Pages c.args.store.now (g.met.P.Pages.follows_itself c.args.store.now)

pub returns-in-Err-clause-disk : goal.returns-in-Err-clause-disk
returns-in-Err-clause-disk g c = λ err tells session is. c.in-Err.ensures.disk (results.err_as _ _ c.in-Err.error DiskFault err) tells session is

pub returns-in-Err-clause-memory : goal.returns-in-Err-clause-memory
returns-in-Err-clause-memory g c = λ err tells session is. c.in-Err.ensures.memory (results.err_as _ _ c.in-Err.error Memory err) tells session is
