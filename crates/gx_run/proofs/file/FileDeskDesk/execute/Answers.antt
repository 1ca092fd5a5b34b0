use Rattle.std.proofs.Common.{Err, ap}
use Rattle.gx_engine.specs.Engines.{reply_of}
use Rattle.gx_pages.specs.declared.error.PageError.{PageError}
use Rattle.gx_run.proofs.DeskFacts as facts
use Rattle.gx_run.proofs.file.FileDeskDesk.execute.Goals as goal

pub returns-in-Ok-clause-done : goal.returns-in-Ok-clause-done
returns-in-Ok-clause-done g c = λ tells from text at is.
    facts.done g.P.Pages c.args.self.now.engine.store c.execute.new.self.store c.args.self.now.engine.kind from at.0 at.1 text c.execute.new.self.kind (reply_of c.in-Ok.reply)
    (c.in-Ok.ensures.executed tells from.session text at.0 is)

pub returns-in-Err-DiskFault-clause-disk : goal.returns-in-Err-DiskFault-clause-disk
returns-in-Err-DiskFault-clause-disk g c = λ same tells from text at is.
    facts.stopped g.P.Pages c.args.self.now.engine.store c.execute.new.self.store c.args.self.now.engine.kind from at.0 at.1 text
    (c.in-Err-DiskFault.ensures.stopped (ap (λ (e : PageError). Err e) c.in-Err-DiskFault.field-0-is) tells from.session text at.0 is)
