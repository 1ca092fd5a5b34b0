-- What doing a statement leaves of pages that stand for a database.
use Rattle.std.specs.Prelude.{◌≡◌, ◌≢◌, ℕ, ◌+◌, ◌^◌, ◌≤◌, ◌==◌, Bool, List, [], None}
use Rattle.std.specs.List.{list_any}
use Rattle.gx_pages.specs.declared.store.Pages.{Ghosts}
use Rattle.gx_database.specs.Standing.{StandsFor}
use Rattle.gx_engine.specs.Engines.{checkpoint_reply, reply_of}
use Rattle.gx_engine.specs.declared.reply.Reply as code
use Rattle.gx_engine.specs.Vacuumed.{IsVacuumed}
use Rattle.gx_words.specs.PageMap.{PageMap}
use Rattle.gx_model.specs.Database.{Database}
use Rattle.gx_model.specs.Replies.{Reply}
use Rattle.gx_model.specs.Steps.{Costs, Stepped, Steps}
use Rattle.gx_parse.specs.Said.{Said, Vacuum}

-- An accepted VACUUM leaves each page but the last one of the table's heap with a row. Other statements owe nothing here.
abbrev pub Vacuums : Said → Stepped → PageMap → Type 0
Vacuums (Vacuum name) stepped map = stepped.reply.fault ≡ None → IsVacuumed map stepped.database name
Vacuums _ stepped map = Unit {0}

-- The statement was done: the database stepped as it says, it was answered so, the pages stand for the new database, and there are not
-- many more of them.
pub record Done {P : Type 0} (g : Ghosts P) (old new : P) (said : Said) (db : Database) (reply : Reply) : Type 0 where
  pub stepped : Stepped
  pub steps : Steps db said stepped
  pub answered : stepped.reply ≡ reply
  pub stands : StandsFor (g.map new) stepped.database
  pub grows : g.count new ≤ g.count old + stepped.growth
  pub vacuumed : Vacuums said stepped (g.map new)

-- The statement is accepted, may add pages, and there is no room for as many.
pub record LacksRoom (count : ℕ) (said : Said) (db : Database) : Type 0 where
  pub stepped : Stepped
  pub steps : Steps db said stepped
  pub accepted : stepped.reply.fault ≡ None
  pub grows : stepped.growth ≢ 0
  pub full : 2 ^ 50 ≤ count + stepped.growth

-- What a statement promises of pages, whatever database they stand for: it is done and answered so,
abbrev pub DoneFor : {P : Type 0} → Ghosts P → P → P → Said → code.Reply → Type 0
DoneFor g old new said reply = g.tells → (db : Database) → StandsFor (g.map old) db → Done g old new said db (reply_of reply)

-- it finds them broken only where they stand for none,
abbrev pub StandForNone : {P : Type 0} → Ghosts P → P → Type 0
StandForNone g pages = g.tells → (db : Database) → StandsFor (g.map pages) db → ⊥

-- it ends for want of room only where there is none,
abbrev pub LackRoomFor : {P : Type 0} → Ghosts P → P → Said → Type 0
LackRoomFor g pages said = g.tells → (db : Database) → StandsFor (g.map pages) db → LacksRoom (g.count pages) said db

-- it adds no more pages than its step may, whether it ends with an error or not,
abbrev pub AtMostGrows : {P : Type 0} → Ghosts P → P → P → Said → Type 0
AtMostGrows g old new said = g.tells → (db : Database) → StandsFor (g.map old) db → (stepped : Stepped) → Steps db said stepped → g.count new ≤ g.count old + stepped.growth

-- and there are no more ticks than it may cost.
abbrev pub AtMostCosts : {P : Type 0} → Ghosts P → P → Said → ℕ → ℕ → Type 0
AtMostCosts g pages said before now = g.tells → (db : Database) → StandsFor (g.map pages) db → (n : ℕ) → Costs db said n → now ≤ before + n

-- The reply has a line, and isn't that to CHECKPOINT.
pub record IsOrdinary (reply : Reply) : Type 0 where
  pub some : reply.bytes ≢ []
  pub other : reply.bytes ≢ checkpoint_reply

abbrev pub has_space : List ℕ → Bool
has_space text = list_any (λ b. b == 32) text
