-- Places in the order in which their keys are away from the first key.
use Rattle.std.specs.Prelude.{◌≡◌, ℕ, List, [], ◌∷◌, map, length, refl}
use Rattle.std.specs.Ordering.{nat_cmp}
use Rattle.std.proofs.lemmas.List.{length-map}
use Rattle.gx_gist.specs.Places.{IsRearrangement}
use Rattle.gx_gist.specs.Orders.{AreRanked}

-- how far each key is from the first
abbrev pub distances : {K : Type 0} → (K → K → ℕ) → List K → List ℕ
distances far [] = []
distances far (first ∷ others) = map (far first) (first ∷ others)

-- each place once, from the nearest to the first key on, ties by place
abbrev pub AreByDistance : {K : Type 0} → (K → K → ℕ) → List K → List ℕ → Type 0
AreByDistance far keys places = AreRanked nat_cmp (distances far keys) places

length-distances : {K : Type 0} (far : K → K → ℕ) (keys : List K) → length (distances far keys) ≡ length keys
length-distances far [] = refl
length-distances far (first ∷ others) = length-map (first ∷ others) (far first)

pub order_rearranges : {K : Type 0} (far : K → K → ℕ) (keys : List K) (places : List ℕ) → AreByDistance far keys places → IsRearrangement places (length keys)
order_rearranges far keys places ranked = rw (length-distances far keys) at ranked.all
