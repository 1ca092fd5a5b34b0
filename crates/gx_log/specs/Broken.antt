-- When a log is broken, and the causes of a log's errors.
use Rattle.std.specs.Prelude.{◌≡◌, ◌≢◌, ◌⊎◌, ℕ, ◌+◌, ◌-◌, ◌*◌, ◌<◌, ◌^◌, min, List, ◌∷◌, ◌++◌, length, take}
use Rattle.std.specs.List.{AllByRecursion}
use Rattle.gx_bytes.specs.Fields.{le64}
use Rattle.gx_words.specs.Causes.{Rose}
use Rattle.gx_log.specs.Records.{Record, IsRecord, Stands, opened}
use Rattle.gx_log.specs.declared.error.LogError.{LogError}
use Rattle.gx_log.specs.declared.error.LogError.TheVariants.{DiskFault, Broken, Memory}

-- a number, or the greatest that a u64 can be
abbrev pub capped : ℕ → ℕ
capped n = min n (2 ^ 64 - 1)

-- At this place, behind open records, stands an open gate, and its record ends past the log: either there are fewer
-- than the eight bytes of its count, or fewer bytes than so many entries have. `expected` is where it ends.
pub record EndsPast (log : List ℕ) (place expected found : ℕ) : Type 0 where
  pub records : List Record
  pub sound : AllByRecursion IsRecord records
  pub rest : List ℕ
  pub bytes : log ≡ opened records ++ 1 ∷ rest
  pub at : place ≡ length (opened records)
  pub size : found ≡ length log
  pub cut : ((length log < place + 9) × (expected ≡ capped (place + 9)))
      ⊎ ((count : ℕ) × (count < 2 ^ 64) × (take 8 rest ≡ le64 count) × (length log < place + 9 + 8200 * count) × (expected ≡ capped (place + 9 + 8200 * count)))

-- The log ends with open records, and there is no gate behind them.
pub record HasNoFront (log : List ℕ) (place expected found : ℕ) : Type 0 where
  pub records : List Record
  pub sound : AllByRecursion IsRecord records
  pub bytes : log ≡ opened records
  pub at : place ≡ length log
  pub one_more : expected ≡ place + 1
  pub size : found ≡ length log

abbrev pub IsBroken : List ℕ → ℕ → ℕ → ℕ → Type 0
IsBroken log place expected found = EndsPast log place expected found ⊎ HasNoFront log place expected found

-- The cause of an error: the count of faults rose, or the log is broken in this way, where the disk tells it. A log
-- that has a front isn't broken.
abbrev pub HasCause : ℕ → ℕ → Type 0 → List ℕ → Type 0 → LogError → Type 0
HasCause before now tells log memory DiskFault = Rose before now
HasCause before now tells log memory (Broken page expected found) =
    (expected ≢ found) × (tells → IsBroken log page expected found × ((records : List Record) → Stands records log → ⊥))
HasCause before now tells log memory Memory = memory
