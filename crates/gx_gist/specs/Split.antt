-- How the items of a full page are shared between two pages.
use Rattle.std.specs.Prelude.{◌≡◌, ◌⊎◌, ℕ, ◌*◌, ◌<◌, ◌≤◌, List, length, take, sum, sum_by, get_or, All}

-- what the items at these places take together
abbrev pub size_of : List ℕ → List ℕ → ℕ
size_of sizes places = sum_by (λ place. get_or sizes place 0) places

-- Sizes that picksplit is given: one for each of at least two keys, none above 1,922, and 12,000 together at most.
pub record AreSizes (n : ℕ) (sizes : List ℕ) : Type 0 where
  pub one_each : length sizes ≡ n
  pub several : 2 ≤ n
  pub small : All (λ size. size ≤ 1922) sizes
  pub together : sum sizes ≤ 12000

-- The places are cut where half of the bytes is reached: after the first place with which it is, but before the last one.
pub record IsCutAtHalf (sizes left right : List ℕ) : Type 0 where
  pub some_left : 0 < length left
  pub some_right : 0 < length right
  pub not_before : (k : ℕ) → 0 < k → k < length left → 2 * size_of sizes (take k left) < sum sizes
  pub reached : (sum sizes ≤ 2 * size_of sizes left) ⊎ (length right ≡ 1)

-- Both sides fit a page, and where the items together are above a page each side has two at least.
pub record AreSides (sizes left right : List ℕ) : Type 0 where
  pub left_fits : size_of sizes left ≤ 8176
  pub right_fits : size_of sizes right ≤ 8176
  pub two_left : 8176 < sum sizes → 2 ≤ length left
  pub two_right : 8176 < sum sizes → 2 ≤ length right
