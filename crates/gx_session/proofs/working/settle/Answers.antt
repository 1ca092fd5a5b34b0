use Rattle.std.proofs.Common.{ℕ, Option, sym, ◌∙◌, subst}
use Rattle.gx_pages.specs.declared.error.PageError.TheVariants.{DiskFault, Memory}
use Rattle.gx_session.specs.Moves.{Moved, MayHaveMoved, behind}
use Rattle.gx_session.proofs.Results as results
use Rattle.gx_session.proofs.working.settle.Goals as goal

pub returns-in-Some-clause-moved : goal.returns-in-Some-clause-moved
returns-in-Some-clause-moved g c = λ tells session db keeps stands.
    let At : Option ℕ → Type 0 = λ f. Moved g.P.Pages c.args.store.now c.break_off.new.store c.break_off.new.kind (behind f session db) in
    subst At (sym c.in-Some.is) (c.break_off.ensures.moved tells session keeps)

pub returns-in-Err-clause-disk : goal.returns-in-Err-clause-disk
returns-in-Err-clause-disk g c = λ err tells session db keeps stands.
    let At : Option ℕ → Type 0 = λ f. MayHaveMoved g.P.Pages c.args.store.now c.end_unit.new.store (behind f session db).committed in
    subst At (sym c.in-None.is) (c.in-Err.ensures.disk (results.err_as _ _ c.in-Err.error DiskFault err) tells session db keeps stands)

pub returns-in-Ok-clause-moved : goal.returns-in-Ok-clause-moved
returns-in-Ok-clause-moved g c = λ tells session db keeps stands.
    let At : Option ℕ → Type 0 = λ f. Moved g.P.Pages c.args.store.now c.end_unit.new.store c.end_unit.new.kind (behind f session db) in
    subst At (sym c.in-None.is) (c.in-Ok.ensures.moved tells session db keeps stands)

pub returns-in-Err-clause-memory : goal.returns-in-Err-clause-memory
returns-in-Err-clause-memory g c = λ err tells session keeps. c.in-Err.ensures.memory (results.err_as _ _ c.in-Err.error Memory err) tells session keeps

pub returns-in-Some-clause-settled : goal.returns-in-Some-clause-settled
returns-in-Some-clause-settled g c = λ tells session keeps idle. c.break_off.ensures.settled tells

pub returns-in-Some-clause-map : goal.returns-in-Some-clause-map
returns-in-Some-clause-map g c = λ none. absurd (results.never _ (sym c.in-Some.is ∙ none))

pub returns-in-Some-clause-grows : goal.returns-in-Some-clause-grows
returns-in-Some-clause-grows g c = λ pages h. c.break_off.ensures.shrinks pages h.committed
