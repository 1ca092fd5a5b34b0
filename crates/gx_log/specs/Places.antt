-- One place of a log, as it is read.
use Rattle.std.specs.Prelude.{◌≡◌, ◌≢◌, ◌⊎◌, ℕ, ◌+◌, ◌*◌, ◌<◌, ◌≤◌, ◌^◌, List, [], ◌∷◌, length, take, drop, slice_index}
use Rattle.std.proofs.Common.{zero, suc}
use Rattle.gx_bytes.specs.Fields.{le64}
use Rattle.gx_words.specs.Causes.{Rose}
use Rattle.gx_log.specs.Broken.{capped}
use Rattle.gx_log.specs.Records.{Record, Stands, opened}
use Rattle.gx_log.specs.declared.error.LogError.{LogError}
use Rattle.gx_log.specs.declared.error.LogError.TheVariants.{DiskFault, Broken, Memory}

-- the gate at this place isn't open
pub record IsShut (log : List ℕ) (place : ℕ) : Type 0 where
  pub within : place < length log
  pub gate : slice_index log place ≢ 1

-- the gate at this place is open, and its record ends there, within the log
pub record IsOpen (log : List ℕ) (place end : ℕ) : Type 0 where
  pub gate : slice_index log place ≡ 1
  pub count : ℕ
  pub fits : count < 2 ^ 64
  pub field : take 8 (drop (place + 1) log) ≡ le64 count
  pub ends : end ≡ place + 9 + 8200 * count
  pub within : end ≤ length log

-- at this place there is no gate, or an open one whose record ends past the log
abbrev pub PlaceBroken : List ℕ → ℕ → ℕ → Type 0
PlaceBroken log place expected =
    ((place ≡ length log) × (expected ≡ place + 1))
    ⊎ ((place < length log) × (slice_index log place ≡ 1)
    × (((length log < place + 9) × (expected ≡ capped (place + 9)))
    ⊎ ((count : ℕ) × (count < 2 ^ 64) × (place + 9 ≤ length log) × (take 8 (drop (place + 1) log) ≡ le64 count) × (length log < place + 9 + 8200 * count) × (expected ≡ capped (place + 9 + 8200 * count)))))

abbrev pub PlaceCause : ℕ → ℕ → Type 0 → List ℕ → ℕ → ℕ → LogError → Type 0
PlaceCause before now tells log place size DiskFault = Rose before now
PlaceCause before now tells log place size (Broken page expected found) =
    (expected ≢ found) × (page ≡ place) × (tells → size ≡ length log → (found ≡ size) × PlaceBroken log place expected)
PlaceCause before now tells log place size Memory = ⊥

-- while entries are laid: the count of faults rose, or there was no memory
abbrev pub LayCause : ℕ → ℕ → LogError → Type 0
LayCause before now DiskFault = Rose before now
LayCause before now (Broken page expected found) = ⊥
LayCause before now Memory = Unit {0}

-- the counted records of the log end at this place
abbrev pub Front : List ℕ → ℕ → Type 0
Front log front = (records : List Record) × Stands records log × (front ≡ length (opened records))

-- so many entries, cut off the front of bytes: of each a number's bytes, and a page's
unfoldable pub cut : ℕ → ℕ → ℕ → List ℕ → Record
cut number page zero bytes = []
cut number page (suc n) bytes = (take number bytes, take page (drop number bytes)) ∷ cut number page n (drop (number + page) bytes)
