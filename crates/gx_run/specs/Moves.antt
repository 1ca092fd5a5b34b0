-- What calls leave of a desk.
use Rattle.std.specs.Prelude.{◌≡◌, ◌⊎◌, ℕ, ◌+◌, ◌≤◌, Bool, List, ◌++◌, length, take, Result, Ok, Err, IfOk}
use Rattle.gx_words.specs.Causes.{Said}
use Rattle.gx_words.specs.Moments.{Moment}
use Rattle.gx_engine.specs.Times.{Between}
use Rattle.gx_words.specs.PageMap.{PageMap}
use Rattle.gx_model.specs.Database.{Database}
use Rattle.gx_database.specs.Standing.{StandsFor}
use Rattle.gx_model.specs.Runs.{State, Done, AreDone, after, any_refused, CostsOfRun}
use Rattle.gx_run.specs.Replied.{last_reply}
use Rattle.gx_engine.specs.Engines.{checkpoint_reply}
use Rattle.gx_run.specs.Headline.{AnyMoment, EndsSo}
use Rattle.gx_run.specs.declared.stop.Stop.{Stop}
use Rattle.gx_run.specs.declared.stop.Stop.TheVariants.{Answer, Disk, Memory, Broken}

-- a crash leaves one of two databases, and nothing more was answered
abbrev pub OneOf : Database → Database → List ℕ → Moment PageMap → Type 0
OneOf before next bytes m = (StandsFor m.image before ⊎ StandsFor m.image next) × (m.bytes ≡ bytes)

-- a crash leaves this database, and a front of more was answered
abbrev pub While : Database → List ℕ → List ℕ → Moment PageMap → Type 0
While db bytes more m = StandsFor m.image db × ((n : ℕ) × (m.bytes ≡ bytes ++ take n more))

-- Where the last reply is the one to CHECKPOINT, the log is empty, also where it was an earlier one that emptied it.
abbrev pub Empties : List Done → Type 0 → Type 0 → Type 0
Empties dones before now = (last : List ℕ) → (last ≡ checkpoint_reply → before) → last_reply last dones ≡ checkpoint_reply → now

-- There are no more ticks than the pieces may cost that were done, and the one that stopped the run.
abbrev pub Spent : State → List (List ℕ) → List Done → ℕ → ℕ → Result Bool Stop → Type 0
Spent from pieces dones before now (Ok refused) = (n : ℕ) → CostsOfRun from pieces dones n → now ≤ before + n
Spent from pieces dones before now (Err Answer) = (n : ℕ) → CostsOfRun from (take (length dones) pieces) dones n → now ≤ before + n
Spent from pieces dones before now (Err Disk) = (n : ℕ) → CostsOfRun from pieces dones n → now ≤ before + n
Spent from pieces dones before now (Err Memory) = (n : ℕ) → CostsOfRun from pieces dones n → now ≤ before + n
Spent from pieces dones before now (Err (Broken page expected found)) = (n : ℕ) → CostsOfRun from pieces dones n → now ≤ before + n

-- The pieces were run, from a state on, until one stopped the run or to their end; so many ticks were counted before and
-- are counted now.
pub record Ran {D : Type 0} (moment : D → ℕ) (since : D → ℕ → Moment PageMap → Type 0) (leaves : D → PageMap → Type 0) (said : D → Said) (is_at : D → State → Type 0) (emptied : D → Type 0)
    (before now : ℕ) (old new : D) (from : State) (pieces : List (List ℕ)) (result : Result Bool Stop) : Type 0 where
  pub dones : List Done
  pub done : AreDone from pieces dones
  pub moments : Between moment since old new (AnyMoment StandsFor from (said old).bytes dones)
  pub ends : EndsSo StandsFor (leaves new) from (length pieces) dones (said old).bytes (said new).bytes result
  pub at : IfOk result (λ refused. (refused ≡ any_refused dones) × is_at new (after from dones))
  pub empties : IfOk result (λ refused. Empties dones (emptied old) (emptied new))
  pub spent : Spent from pieces dones before now result
