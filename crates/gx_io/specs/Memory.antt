-- What a source in memory is seen as.
use Rattle.std.specs.Prelude.{ℕ, List}

-- The bytes that are left, the numbers of the reads that fail, how many reads there were, and how many failed.
pub record Memory : Type 0 where
  pub left : List ℕ
  pub failing : List ℕ
  pub calls : ℕ
  pub faults : ℕ
