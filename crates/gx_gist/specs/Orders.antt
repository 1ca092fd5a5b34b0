-- The order of keys that a split may cut.
use Rattle.std.specs.Prelude.{ℕ, List, length, IsSortedBy}
use Rattle.std.specs.List.{slice_get}
use Rattle.std.specs.Option.{option_cmp}
use Rattle.std.specs.Ordering.{nat_cmp, then_cmp, on, is_lt}
use Rattle.std.specs.declared.cmp.Ordering.{Ordering}
use Rattle.gx_gist.specs.Places.{IsRearrangement}

-- two places by their keys, ties by place; a place without a key stands first
abbrev pub place_cmp : {K : Type 0} → (K → K → Ordering) → List K → ℕ → ℕ → Ordering
place_cmp R keys = then_cmp (on (slice_get keys) (option_cmp R)) nat_cmp

-- each place once, in this order
pub record AreRanked {K : Type 0} (R : K → K → Ordering) (keys : List K) (places : List ℕ) : Type 0 where
  pub all : IsRearrangement places (length keys)
  pub rising : IsSortedBy (λ a b. is_lt (place_cmp R keys a b)) places
