-- The headline: what a run of pieces on a file leaves of the host, at any moment and at its end.
use Rattle.std.specs.Prelude.{◌≡◌, ◌⊎◌, ℕ, ◌+◌, ◌<◌, ◌≤◌, Bool, List, [], ◌++◌, length, take, Result, Ok, Err, IfOk}
use Rattle.gx_words.specs.Image.{Image}
use Rattle.gx_words.specs.Moments.{Moment}
use Rattle.gx_words.specs.PageMap.{PageMap}
use Rattle.gx_disk.specs.declared.disk.Disk.{Ghosts}
use Rattle.gx_log.specs.Records.{Stands, HasMap}
use Rattle.gx_lexer.specs.Cut.{cut, statements}
use Rattle.gx_pager.specs.Openings.{OpenBroken}
use Rattle.gx_pages.specs.declared.error.PageError.{PageError}
use Rattle.gx_pages.specs.declared.error.PageError.TheVariants as pages
use Rattle.gx_model.specs.Database.{Database}
use Rattle.gx_database.specs.Standing.{StandsFor}
use Rattle.gx_model.specs.Runs.{State, Done, AreDone, any_refused}
use Rattle.gx_run.specs.Replied.{last_reply}
use Rattle.gx_engine.specs.Engines.{checkpoint_reply}
use Rattle.gx_run.specs.Headline.{AnyMoment, Whole, DiskFailed, AnswerFailed, LackedMemory}
use Rattle.gx_run.specs.Moves.{Spent}
use Rattle.gx_run.specs.declared.halt.Halt.{Halt}
use Rattle.gx_run.specs.declared.halt.Halt.TheVariants.{Stopped, Source, Full}
use Rattle.gx_run.specs.declared.stop.Stop.{Stop}
use Rattle.gx_run.specs.declared.stop.Stop.TheVariants.{Answer, Disk, Memory, Broken}

-- An image stands for a database: its pages below the count on its page 0 do.
pub record ImageStands (image : Image) (db : Database) : Type 0 where
  pub map : PageMap
  pub pages : HasMap image map
  pub stands : StandsFor map db

-- nothing was answered, and a crash leaves what it might have left at the start
abbrev pub AtStart : {H : Type 0} → Ghosts H → H → Moment Image → Type 0
AtStart g old m = g.now_may_leave old m.image × (m.bytes ≡ (g.said old).bytes)

-- The run ended before the first piece.
pub record NotBegun {H : Type 0} (g : Ghosts H) (old new : H) : Type 0 where
  pub answered : (g.said new).bytes ≡ (g.said old).bytes
  pub left : (c : Image) → g.now_may_leave new c → g.now_may_leave old c

-- how the run ended
abbrev pub Ended : {H : Type 0} → Ghosts H → H → H → State → ℕ → List Done → Result Bool Stop → Type 0
Ended g old new from count dones (Ok refused) =
    Whole ImageStands (g.now_may_leave new) from count dones (g.said old).bytes (g.said new).bytes × (refused ≡ any_refused dones)
Ended g old new from count dones (Err Answer) = AnswerFailed ImageStands (g.now_may_leave new) from dones (g.said old).bytes (g.said new).bytes
Ended g old new from count dones (Err Disk) = DiskFailed ImageStands (g.now_may_leave new) from dones (g.said old).bytes (g.said new).bytes ⊎ NotBegun g old new
Ended g old new from count dones (Err Memory) = LackedMemory ImageStands (g.now_may_leave new) from dones (g.said old).bytes (g.said new).bytes ⊎ NotBegun g old new
Ended g old new from count dones (Err (Broken page expected found)) = ⊥

-- The pieces were done one after another, from the first on. At every moment since the call began a crash leaves what
-- the first of them committed, and a front of their replies was answered; or it leaves what it might have left at the
-- start, and nothing was answered. There were no more ticks than the pieces may cost. Where every piece was done and the
-- last reply is the one to CHECKPOINT, no record of the log counts.
pub record Headline {H : Type 0} (g : Ghosts H) (before now : ℕ) (old new : H) (from : State) (pieces : List (List ℕ)) (result : Result Bool Stop) : Type 0 where
  pub dones : List Done
  pub done : AreDone from pieces dones
  pub any_moment : (m : Moment Image) → g.may_have_left_since new (g.moment old) m → AnyMoment ImageStands from (g.said old).bytes dones m ⊎ AtStart g old m
  pub ended : Ended g old new from (length pieces) dones result
  pub spent : Spent from pieces dones before now result
  pub emptied : IfOk result (λ refused. last_reply [] dones ≡ checkpoint_reply → Stands [] (g.told new).log)

-- The headline for a script that came from a source: every piece of it was run and answered, and it isn't too long; or a piece stopped the run;
-- or the source failed, and the pieces that a `;` ends in the bytes taken were run and answered; or there were more bytes
-- than a script may have, and so were the pieces that a `;` ends in so many of them. In this last case alone more bytes than that were taken.
abbrev pub ScriptHeadline : {H : Type 0} → Ghosts H → ℕ → ℕ → H → H → State → ℕ → List ℕ → List ℕ → Result Bool Halt → Type 0
ScriptHeadline g before now old new from limit script left (Ok refused) = Headline g before now old new from (statements script) (Ok refused) × (left ≡ []) × (length script ≤ limit)
ScriptHeadline g before now old new from limit script left (Err (Stopped stop)) = Headline g before now old new from (statements script) (Err stop) × (length script ≤ limit + length left)
ScriptHeadline g before now old new from limit script left (Err Source) =
    (taken : List ℕ) × (script ≡ taken ++ left) × (length taken ≤ limit) × (refused : Bool) × Headline g before now old new from (cut taken).pieces (Ok refused)
ScriptHeadline g before now old new from limit script left (Err Full) =
    (limit + length left < length script) × (refused : Bool) × Headline g before now old new from (cut (take limit script)).pieces (Ok refused)

-- the cause that an opening ends with; there is never a lack of pages
abbrev pub stopped_by : PageError → Stop
stopped_by pages.DiskFault = Disk
stopped_by (pages.Broken page expected found) = Broken page expected found
stopped_by (pages.PageSpace count) = Memory
stopped_by pages.Memory = Memory

-- how a run ends on a disk that can't be opened: with numbers that say why, or the disk fails or there is no memory before
abbrev pub BrokenBy : Image → Result Bool Halt → Type 0
BrokenBy image (Err (Stopped (Broken page expected found))) = OpenBroken image page expected found
BrokenBy image (Err (Stopped Disk)) = Unit {0}
BrokenBy image (Err (Stopped Memory)) = Unit {0}
BrokenBy image (Err (Stopped Answer)) = ⊥
BrokenBy image (Err Source) = ⊥
BrokenBy image (Err Full) = ⊥
BrokenBy image (Ok refused) = ⊥

-- The run ended so, and the disk reads as before, with nothing answered.
pub record OpensBroken {H : Type 0} (g : Ghosts H) (old new : H) (result : Result Bool Halt) : Type 0 where
  pub by : BrokenBy (g.told old) result
  pub told : g.told new ≡ g.told old
  pub said : g.said new ≡ g.said old
