-- Replies that refuse, and errors for want of memory.
use Rattle.std.proofs.Common.{◌≡◌, List, ℕ, Some, Result, Ok, Err}
use Rattle.std.specs.Prelude.{IfOk}
use Rattle.gx_pages.specs.declared.error.PageError.{PageError}
use Rattle.gx_pages.specs.declared.store.Pages.{Ghosts}
use Rattle.gx_engine.specs.declared.reply.Reply as code
use Rattle.gx_engine.specs.Engines.{reply_of}
use Rattle.gx_parse.specs.Said.{Said}
use Rattle.gx_model.specs.Checks.{Find}
use Rattle.gx_model.specs.Database.{Database}
use Rattle.gx_model.specs.Faults.{checks}
use Rattle.gx_model.specs.Replies.{Reply, accepted, refusal}
use Rattle.gx_database.specs.Standing.{StandsFor}
use Rattle.gx_step.specs.Doing.{Done}
use Rattle.gx_step.proofs.Same.{refused_done}

pub all_refused : {P : Type 0} (g : Ghosts P) (old new : P) (said : Said) (n : ℕ) (result : Result code.Reply PageError) → g.map new ≡ g.map old → g.count new ≡ g.count old
    → (g.tells → (db : Database) → StandsFor (g.map old) db → Find (checks db said) (Some n)) → IfOk result (λ reply. reply_of reply ≡ refusal n)
    → IfOk result (λ reply. g.tells → (db : Database) → StandsFor (g.map old) db → Done g old new said db (reply_of reply))
all_refused g old new said n (Ok reply) map count find is = λ tells db s. refused_done g old new said db n (reply_of reply) map count s (find tells db s) is
all_refused g old new said n (Err e) map count find is = tt

pub all_done : {P : Type 0} (g : Ghosts P) (old new : P) (said : Said) (text : List ℕ) (result : Result code.Reply PageError)
    → ((reply : Reply) → reply ≡ accepted text → g.tells → (db : Database) → StandsFor (g.map old) db → Done g old new said db reply) → IfOk result (λ reply. reply_of reply ≡ accepted text)
    → IfOk result (λ reply. g.tells → (db : Database) → StandsFor (g.map old) db → Done g old new said db (reply_of reply))
all_done g old new said text (Ok reply) does is = does (reply_of reply) is
all_done g old new said text (Err e) does is = tt
