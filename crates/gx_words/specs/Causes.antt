-- Words for causes: counts of faults that rise, and what was said by then.
use Rattle.std.specs.Prelude.{ℕ, List, Result, IsErr, min, ◌+◌, ◌-◌, ◌^◌, ◌≤◌}

-- A count of faults rises: it is greater afterwards, or it stands at its greatest value.
abbrev pub Rose : ℕ → ℕ → Type 0
Rose old new = min (old + 1) (2 ^ 64 - 1) ≤ new

-- A call leaves a count no less than it was, and fails only where the count rose.
pub record FailsWith {T E : Type 0} (before now : ℕ) (result : Result T E) : Type 0 where
  pub later : before ≤ now
  pub failed : IsErr result → Rose before now

-- What was answered to the outside: its bytes, and how many answers failed.
pub record Said : Type 0 where
  pub bytes : List ℕ
  pub faults : ℕ
