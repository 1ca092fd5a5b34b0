-- What no call of Pages changes, and the causes of its errors.
use Rattle.std.specs.Prelude.{◌≡◌, ◌≢◌, ℕ, ◌≤◌, ◌<◌, Bool, true, false, IsSome, Result, Ok, Err}
use Rattle.gx_words.specs.Causes.{Rose, Said}
use Rattle.gx_words.specs.Moments.{Moment, Now, Elapses}
use Rattle.gx_words.specs.PageMap.{PageMap}
use Rattle.gx_pages.specs.declared.error.PageError.{PageError}
use Rattle.gx_pages.specs.declared.error.PageError.TheVariants.{DiskFault, Broken, PageSpace, Memory}

-- What was said, what is committed, whether a unit is begun, and whether the store is spoiled are as they were; what lies
-- below followed, time went on, and a crash leaves no committed map that it couldn't leave before.
pub record Quiet {P : Type 0} (said_of : P → Said) (committed_of : P → PageMap) (spoiled_of begun_of : P → Bool) (committed_count_of faults_of moment_of : P → ℕ)
    (may_leave : P → PageMap → Type 0) (since : P → ℕ → Moment PageMap → Type 0) (follows_on : P → P → Type 0) (old new : P) : Type 0 where
  pub said : said_of new ≡ said_of old
  pub committed : committed_of new ≡ committed_of old
  pub committed_count : committed_count_of new ≡ committed_count_of old
  pub spoiled : spoiled_of new ≡ spoiled_of old
  pub begun : begun_of new ≡ begun_of old
  pub follows : follows_on old new
  pub faults : faults_of old ≤ faults_of new
  pub images : (map : PageMap) → may_leave new map → may_leave old map
  pub time : Elapses (moment_of old) (moment_of new) (since old) (since new) (Now (may_leave old) (said_of old).bytes)

-- each error with its cause
abbrev pub HasCause : ℕ → ℕ → (ℕ → ℕ → ℕ → Type 0) → (ℕ → Type 0) → Type 0 → PageError → Type 0
HasCause before now broken space memory DiskFault = Rose before now
HasCause before now broken space memory (Broken page expected found) = (expected ≢ found) × broken page expected found
HasCause before now broken space memory (PageSpace pages) = space pages
HasCause before now broken space memory Memory = memory

-- What was said and both counts of fetches are as they were, what lies below followed, and the count of faults didn't fall.
pub record Beside {P : Type 0} (said_of : P → Said) (fetches_of heap_of faults_of : P → ℕ) (follows_on : P → P → Type 0) (old new : P) : Type 0 where
  pub said : said_of new ≡ said_of old
  pub fetches : fetches_of new ≡ fetches_of old
  pub heap : heap_of new ≡ heap_of old
  pub faults : faults_of old ≤ faults_of new
  pub follows : follows_on old new

-- The committed map is this one, and has this count.
abbrev pub IsCommitted : {P : Type 0} → Type 0 → (P → PageMap) → (P → ℕ) → P → PageMap → ℕ → Type 0
IsCommitted tells committed_of committed_count_of s map count = (tells → committed_of s ≡ map) × (committed_count_of s ≡ count)

-- Below a page that is there none is lacking.
abbrev pub HasNoGap : PageMap → Type 0
HasNoGap map = (n k : ℕ) → n < k → IsSome (map k) → IsSome (map n)

-- whether a call failed by the disk
abbrev pub is_disk_fault : {T : Type 0} → Result T PageError → Bool
is_disk_fault (Ok value) = false
is_disk_fault (Err DiskFault) = true
is_disk_fault (Err (Broken page expected found)) = false
is_disk_fault (Err (PageSpace pages)) = false
is_disk_fault (Err Memory) = false
