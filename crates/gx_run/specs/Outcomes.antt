-- What the top call does, by its words.
use Rattle.std.specs.Prelude.{◌≡◌, ◌≢◌, ◌⊎◌, ◌↔◌, ℕ, ◌<◌, ◌≤◌, Bool, true, false, ◌++◌, length, codes, Option, Some, None}
use Rattle.gx_words.specs.Causes.{Rose}
use Rattle.gx_words.specs.Image.{Image}
use Rattle.gx_words.specs.PageMap.{PageMap}
use Rattle.gx_disk.specs.declared.disk.Disk.{Ghosts}
use Rattle.gx_io.specs.declared.source.Source as source
use Rattle.gx_log.specs.Records.{HasMap, count_in}
use Rattle.gx_pager.specs.Openings.{OpenBroken}
use Rattle.gx_model.specs.Database.{Database, empty}
use Rattle.gx_database.specs.Standing.{StandsFor}
use Rattle.gx_model.specs.Runs.{start}
use Rattle.gx_run.specs.Inits.{AnswersSize}
use Rattle.gx_run.specs.Lines.{IsDiskKept}
use Rattle.gx_run.specs.Scripts.{TakesBy}
use Rattle.gx_run.specs.Statuses.{FileRun, TryRun, RefusedAsBroken, AnswersBroken}
use Rattle.gx_run.specs.declared.script.TheConstants.{LIMIT}
use Rattle.gx_run.specs.declared.words.Command.{Command}
use Rattle.gx_run.specs.declared.words.Command.TheVariants.{Init, Run, Try}

-- the run came to the script's end, or to its greatest length, or wanted memory
abbrev pub Completes : ℕ → Type 0
Completes status = (status < 2) ⊎ ((status ≡ 5) ⊎ (status ≡ 7))

-- one of the statuses with which a script's run ends
abbrev pub IsOfRun : ℕ → Type 0
IsOfRun status = (status ≤ 7) × (status ≢ 2)

-- no answer failed, or it can't be told since the count stands at its greatest value
abbrev pub NoAnswerFailed : {H : Type 0} → Ghosts H → H → H → Type 0
NoAnswerFailed g old new = ¬ Rose (g.said old).faults (g.said new).faults

abbrev pub NoDiskFailed : {H : Type 0} → Ghosts H → H → H → Type 0
NoDiskFailed g old new = ¬ Rose (g.faults old) (g.faults new)

-- `run FILE`. On a disk that reads as a database the script was run, and it came to an end where nothing failed. A disk
-- that can't be opened is refused with the numbers that say why. Whatever the disk, status 7 comes exactly where more bytes than a script
-- may have were taken of it.
pub record OfFile {S H : Type 0} (s : source.Ghosts S) (g : Ghosts H) (ticks ticked : ℕ) (taken taking : S) (old new : H) (status : ℕ) : Type 0 where
  pub run : s.tells → g.tells → (db : Database) (pages : PageMap) → HasMap (g.told old) pages → StandsFor pages db
      → FileRun g ticks ticked old new (start db (count_in (pages 0))) LIMIT (s.told taken) (s.told taking) status
  pub sound : g.tells → (db : Database) (pages : PageMap) → HasMap (g.told old) pages → StandsFor pages db → status ≢ 6
  pub complete : g.tells → (db : Database) (pages : PageMap) → HasMap (g.told old) pages → StandsFor pages db
      → ¬ Rose (s.faults taken) (s.faults taking) → NoDiskFailed g old new → NoAnswerFailed g old new → Completes status
  pub broken : g.tells → (page expected found : ℕ) → OpenBroken (g.told old) page expected found → NoDiskFailed g old new → NoAnswerFailed g old new → RefusedAsBroken g old new status
  pub numbers : status ≡ 6 → AnswersBroken g new
  pub limit : s.tells → TakesBy LIMIT (s.told taken) (s.told taking) status
  pub known : IsOfRun status

-- `try`. The script was run on an empty database in memory, and the disk wasn't called.
pub record OfTry {S H : Type 0} (s : source.Ghosts S) (g : Ghosts H) (ticks ticked : ℕ) (taken taking : S) (old new : H) (status : ℕ) : Type 0 where
  pub run : s.tells → g.tells → TryRun (start empty 2) ticks ticked (g.said old).bytes (g.said new).bytes LIMIT (s.told taken) (s.told taking) status
  pub sound : g.tells → status ≢ 6
  pub complete : g.tells → ¬ Rose (s.faults taken) (s.faults taking) → NoAnswerFailed g old new → Completes status
  pub disk : IsDiskKept g old new
  pub no_disk : status ≢ 3
  pub limit : s.tells → TakesBy LIMIT (s.told taken) (s.told taking) status
  pub known : IsOfRun status

-- The image stands for the empty database, which has two pages.
pub record IsNew (image : Image) : Type 0 where
  pub map : PageMap
  pub pages : HasMap image map
  pub stands : StandsFor map empty
  pub count : count_in (map 0) ≡ 2

-- `init FILE`, with or without `--overwrite`. With status 0 each image stands for the empty database with its two pages; an area that
-- isn't empty and isn't to be overwritten stays as it was.
pub record OfInit {H : Type 0} (g : Ghosts H) (overwrite : Bool) (old new : H) (status : ℕ) : Type 0 where
  pub made : status ≡ 0 → g.tells → ((c : Image) → g.now_may_leave new c → IsNew c) × ((g.said new).bytes ≡ (g.said old).bytes ++ codes "INIT\n")
  pub kept : overwrite ≡ false → g.tells → 0 < length (g.told old).pages → (g.told new ≡ g.told old) × ((c : Image) → g.now_may_leave new c ↔ g.now_may_leave old c)
  pub kinds : (status ≡ 0) ⊎ ((status ≡ 3) ⊎ ((status ≡ 4) ⊎ (status ≡ 6)))
  pub size : status ≡ 6 → (overwrite ≡ false) × AnswersSize g old new
  pub complete : NoDiskFailed g old new → NoAnswerFailed g old new → (overwrite ≡ true) ⊎ (g.tells × (length (g.told old).pages ≡ 0)) → status ≡ 0
  pub refused : NoDiskFailed g old new → NoAnswerFailed g old new → overwrite ≡ false → g.tells → 0 < length (g.told old).pages → status ≡ 6

-- By the command: other words are status 2, and nothing is taken, answered or changed.
abbrev pub Outcome : {S H : Type 0} → source.Ghosts S → Ghosts H → Option Command → ℕ → ℕ → S → S → H → H → ℕ → Type 0
Outcome s g None ticks ticked taken taking old new status = (status ≡ 2) × (taking ≡ taken) × (new ≡ old) × (ticked ≡ ticks)
Outcome s g (Some (Init overwrite)) ticks ticked taken taking old new status = OfInit g overwrite old new status × (taking ≡ taken) × (ticked ≡ ticks)
Outcome s g (Some Run) ticks ticked taken taking old new status = OfFile s g ticks ticked taken taking old new status
Outcome s g (Some Try) ticks ticked taken taking old new status = OfTry s g ticks ticked taken taking old new status
