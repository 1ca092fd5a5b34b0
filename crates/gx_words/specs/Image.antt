-- The two areas of a disk, and what writes make of an area.
use Rattle.std.specs.Prelude.{◌≡◌, ◌⊎◌, ℕ, ◌+◌, ◌-◌, ◌≤◌, ◌<◌, max, List, ◌++◌, length, take, drop, replicate, slice_index}

-- What a disk holds, or what a crash left of it: the bytes of the area Pages, and those of the area Log.
pub record Image : Type 0 where
  pub pages : List ℕ
  pub log : List ℕ

-- An area after a write: the bytes stand from this place on. Where the place is past the end, zeros fill the gap.
abbrev pub written : List ℕ → ℕ → List ℕ → List ℕ
written old at bytes = take at (old ++ replicate (at - length old) 0) ++ bytes ++ drop (at + length bytes) old

-- An area after a write of n bytes that a crash or a fault cut short. The range written, and all past the old end,
-- may hold any bytes; the length is anywhere between the old one and the new one; the bytes outside stay.
pub record Torn (at n : ℕ) (old new : List ℕ) : Type 0 where
  pub no_shorter : length old ≤ length new
  pub no_longer : length new ≤ max (length old) (at + n)
  pub outside : (k : ℕ) → k < length old → (k < at) ⊎ (at + n ≤ k) → slice_index new k ≡ slice_index old k
