-- Places in a list, from 0.
use Rattle.std.specs.Prelude.{ℕ, List, IsPermutation}
use Rattle.std.specs.List.{range_with_len}

-- the places of a list of n, each once, in any order
abbrev pub IsRearrangement : List ℕ → ℕ → Type 0
IsRearrangement places n = IsPermutation (range_with_len 0 n) places
