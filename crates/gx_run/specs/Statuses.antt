-- Statuses: the numbers that a run ends with.
use Rattle.std.specs.Prelude.{◌≡◌, ◌≢◌, ◌⊎◌, ℕ, Bool, true, false, List, ◌++◌, Result, Ok, Err}
use Rattle.gx_disk.specs.declared.disk.Disk.{Ghosts}
use Rattle.gx_pager.specs.Openings.{OpenBroken}
use Rattle.gx_model.specs.Runs.{State}
use Rattle.gx_run.specs.Lines.{broken_line}
use Rattle.gx_run.specs.Top.{ScriptHeadline}
use Rattle.gx_run.specs.Try.{TryHeadline}
use Rattle.gx_run.specs.declared.halt.Halt.{Halt}
use Rattle.gx_run.specs.declared.halt.Halt.TheVariants.{Stopped, Source, Full}
use Rattle.gx_run.specs.declared.stop.Stop.TheVariants.{Answer, Disk, Memory, Broken}

abbrev pub status_of : Result Bool Halt → ℕ
status_of (Ok false) = 0
status_of (Ok true) = 1
status_of (Err (Stopped Disk)) = 3
status_of (Err (Stopped Answer)) = 4
status_of (Err (Stopped Memory)) = 5
status_of (Err (Stopped (Broken page expected found))) = 6
status_of (Err Source) = 4
status_of (Err Full) = 7

-- no page is broken
abbrev pub IsWithout : Result Bool Halt → Type 0
IsWithout (Ok refused) = Unit {0}
IsWithout (Err (Stopped Disk)) = Unit {0}
IsWithout (Err (Stopped Answer)) = Unit {0}
IsWithout (Err (Stopped Memory)) = Unit {0}
IsWithout (Err (Stopped (Broken page expected found))) = ⊥
IsWithout (Err Source) = Unit {0}
IsWithout (Err Full) = Unit {0}

-- A script was run on a file: how it ended, which gives the status, and the headline for that end.
pub record FileRun {H : Type 0} (g : Ghosts H) (ticks ticked : ℕ) (old new : H) (from : State) (limit : ℕ) (script left : List ℕ) (status : ℕ) : Type 0 where
  pub end : Result Bool Halt
  pub numbered : status ≡ status_of end
  pub headline : ScriptHeadline g ticks ticked old new from limit script left end

-- The same for a database in memory.
pub record TryRun (from : State) (ticks ticked : ℕ) (before now : List ℕ) (limit : ℕ) (script left : List ℕ) (status : ℕ) : Type 0 where
  pub end : Result Bool Halt
  pub numbered : status ≡ status_of end
  pub headline : TryHeadline from ticks ticked before now limit script left end

-- The line of a broken page is the last that was answered; its numbers differ.
pub record AnswersBroken {H : Type 0} (g : Ghosts H) (new : H) : Type 0 where
  pub page : ℕ
  pub expected : ℕ
  pub found : ℕ
  pub differ : expected ≢ found
  pub before : List ℕ
  pub said : g.tells → (g.said new).bytes ≡ before ++ broken_line page expected found

-- The numbers of a cause for which the disk can't be opened were answered, and nothing else; or there was no memory, and
-- nothing was.
abbrev pub SaysBroken : {H : Type 0} → Ghosts H → H → H → Type 0
SaysBroken g old new = (page : ℕ) × (expected : ℕ) × (found : ℕ) × OpenBroken (g.told old) page expected found × ((g.said new).bytes ≡ (g.said old).bytes ++ broken_line page expected found)

pub record RefusedAsBroken {H : Type 0} (g : Ghosts H) (old new : H) (status : ℕ) : Type 0 where
  pub told : g.told new ≡ g.told old
  pub by : ((status ≡ 6) × SaysBroken g old new) ⊎ ((status ≡ 5) × (g.said new ≡ g.said old))
