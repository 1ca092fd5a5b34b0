-- What one read of a source gives.
use Rattle.std.specs.Prelude.{◌≡◌, ◌<◌, ◌≤◌, ℕ, List, [], length, take}

-- The first n of the bytes were read, where there was room for so many. With room, n is 0 only where no bytes were left.
pub record IsFront (bytes read : List ℕ) (n room : ℕ) : Type 0 where
  pub within : n ≤ length bytes
  pub same : take n read ≡ take n bytes
  pub end : 0 < room → n ≡ 0 → bytes ≡ []
