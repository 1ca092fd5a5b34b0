use Rattle.std.proofs.Common.{arith}
use Rattle.gx_engine.specs.Engines.{reply_of}
use Rattle.gx_pages.specs.contracts.memory.MemoryPagesPages.TheImpl.{ghosts}
use Rattle.gx_run.proofs.DeskFacts as facts
use Rattle.gx_run.proofs.memory.MemoryDeskDesk.execute.Goals as goal

pub returns-in-Ok-clause-done : goal.returns-in-Ok-clause-done
returns-in-Ok-clause-done g c = λ tells from text at is.
    let h = facts.done ghosts c.args.self.now.engine.store c.execute.new.self.store c.args.self.now.engine.kind from at.0 at.1 text c.execute.new.self.kind (reply_of c.in-Ok.reply)
    (c.in-Ok.ensures.executed tt from.session text at.0 is) in
    (h.0, h.1, h.2, h.3, record { later = omega arith; nothing_else = λ t m le s. absurd s; keeps = λ t m le s. absurd s })
