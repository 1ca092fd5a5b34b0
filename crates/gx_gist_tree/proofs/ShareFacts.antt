-- Items that are shared between two pages.
use Rattle.std.proofs.Common.{◌≡◌, ◌⊎◌, ℕ, zero, suc, ◌+◌, ◌<◌, ◌≤◌, List, [], ◌∷◌, ◌++◌, length, map, sum, All, refl, sym, ◌∙◌, ap, subst, arith}
use Rattle.std.proofs.lemmas.List.Elements.{All-head, All-tail, All-nil, All-cons, All-map}
use Rattle.gx_pages.specs.declared.error.PageError.{PageError}
use Rattle.gx_pages.specs.declared.error.PageError.TheVariants.{Broken, Memory}
use Rattle.gx_slot.specs.Slots.{Slots, taken}
use Rattle.gx_gist.specs.Places.{IsRearrangement}
use Rattle.gx_gist.specs.Split.{AreSides, AreSizes, size_of}
use Rattle.gx_gist_tree.specs.Insertion.{AreHalves, AreKeys, IsUnion, head_len, page_with, picked}
use Rattle.gx_gist_tree.proofs.KeyFacts.{items_small, keys_many, keys_valid}
use Rattle.gx_gist_tree.proofs.Picks.{all_below, size_picked, somes, taken_cons, taken_sum}

all_first : {X : Type 0} (F : X → Type 0) (xs ys : List X) → All F (xs ++ ys) → All F xs
all_first F [] ys all = All-nil F
all_first F (x ∷ xs) ys all = All-cons F x xs (All-head F x (xs ++ ys) all) (all_first F xs ys (All-tail F x (xs ++ ys) all))

all_last : {X : Type 0} (F : X → Type 0) (xs ys : List X) → All F (xs ++ ys) → All F ys
all_last F [] ys all = all
all_last F (x ∷ xs) ys all = all_last F xs ys (All-tail F x (xs ++ ys) all)

head_low : (level : ℕ) → head_len level ≤ 18
head_low zero = omega arith
head_low (suc level) = omega arith

several_items : (items : List (List ℕ)) → All (λ item. 4 + length item ≤ 1922) items → 8176 < taken (somes items) → 2 ≤ length items
several_items [] small full = absurd (omega (arith, full))
several_items (x ∷ []) small full = absurd (let one = taken_cons x [] in let s = All-head (λ (i : List ℕ). 4 + length i ≤ 1922) x [] small in omega (arith, full, one, s))
several_items (x ∷ y ∷ items) small full = omega arith

module _ {K : Type 0} (valid : K → Type 0) (bytes : K → List ℕ) (short : (k : K) → valid k → length (bytes k) ≤ 1900) (level : ℕ) (items : List (List ℕ)) (keys : List K) (are : AreKeys valid bytes (head_len level) items keys) where
  pub small_items : All (λ item. 4 + length item ≤ 1922) items
  small_items = items_small valid bytes (head_len level) short (head_low level) items keys are

  pub valid_list : All valid keys
  valid_list = keys_valid valid bytes (head_len level) items keys are

  many : length keys ≡ length items
  many = keys_many valid bytes (head_len level) items keys are

  module _ (full : 8176 < taken (somes items)) (room : taken (somes items) ≤ 12000) (sizes : List ℕ) (sizes_are : sizes ≡ map (λ item. 4 + length item) items) where
    total : sum sizes ≡ taken (somes items)
    total = ap (λ (l : List ℕ). sum l) sizes_are ∙ sym (taken_sum items)

    pub are_sizes : AreSizes (length keys) sizes
    are_sizes = record {
      one_each = ap (λ (l : List ℕ). length l) sizes_are ∙ long items ∙ sym many;
      several = let n = several_items items small_items full in omega (arith, n, many);
      small = subst (λ (l : List ℕ). All (λ size. size ≤ 1922) l) (sym sizes_are) (All-map (λ (size : ℕ). size ≤ 1922) (λ (item : List ℕ). 4 + length item) items small_items);
      together = omega (arith, total, room);
    }
      where
        long : (xs : List (List ℕ)) → length (map (λ item. 4 + length item) xs) ≡ length xs
        long [] = refl
        long (x ∷ xs) = ap (λ (n : ℕ). suc n) (long xs)

    module _ (left right : List ℕ) (order : IsRearrangement (left ++ right) (length keys)) (sides : AreSides sizes left right) where
      low : All (λ p. p < length keys) (left ++ right)
      low = all_below (length keys) (left ++ right) order

      pub low_left : All (λ p. p < length keys) left
      low_left = all_first (λ (p : ℕ). p < length keys) left right low

      pub low_right : All (λ p. p < length keys) right
      low_right = all_last (λ (p : ℕ). p < length keys) left right low

      pub items_left : All (λ p. p < length items) left
      items_left = subst (λ (n : ℕ). All (λ p. p < n) left) many low_left

      pub items_right : All (λ p. p < length items) right
      items_right = subst (λ (n : ℕ). All (λ p. p < n) right) many low_right

      pub two_left : 2 ≤ length left
      two_left = sides.two_left (omega (arith, total, full))

      pub two_right : 2 ≤ length right
      two_right = sides.two_right (omega (arith, total, full))

      pub fits_left : 8176 < taken (somes (picked items left)) → ⊥
      fits_left much =
          let size = size_picked items left items_left in
          let same = ap (λ (l : List ℕ). size_of l left) sizes_are in
          let fits = sides.left_fits in
          omega (arith, much, size, same, fits)

      pub fits_right : 8176 < taken (somes (picked items right)) → ⊥
      fits_right much =
          let size = size_picked items right items_right in
          let same = ap (λ (l : List ℕ). size_of l right) sizes_are in
          let fits = sides.right_fits in
          omega (arith, much, size, same, fits)

      pub halves_are : (union : K → K → K) (slots other : Slots) (l r : K) → slots ≡ page_with level (picked items left) → other ≡ page_with level (picked items right) → IsUnion union (picked keys left) l
          → IsUnion union (picked keys right) r → AreHalves valid union bytes level items slots other l r
      halves_are union slots other l r here there lu ru = record {
        left = left;
        right = right;
        all = subst (λ (n : ℕ). IsRearrangement (left ++ right) n) many order;
        two_left = two_left;
        two_right = two_right;
        here = here;
        there = there;
        keys = keys;
        are = are;
        left_union = lu;
        right_union = ru;
      }

-- the cause at an equal level and equal items
pub cause_at : {K : Type 0} (valid : K → Type 0) (bytes : K → List ℕ) (e : PageError) (page : ℕ) (a b : ℕ) (xs ys : List (List ℕ)) → a ≡ b → xs ≡ ys
    → (e ≡ Memory) ⊎ ((e ≡ Broken page 1 0) × ((keys : List K) → AreKeys valid bytes (head_len a) xs keys → ⊥))
    → (e ≡ Memory) ⊎ ((e ≡ Broken page 1 0) × ((keys : List K) → AreKeys valid bytes (head_len b) ys keys → ⊥))
cause_at {K} valid bytes e page a b xs ys same_level same_items cause =
    subst (λ (n : ℕ). (e ≡ Memory) ⊎ ((e ≡ Broken page 1 0) × ((keys : List K) → AreKeys valid bytes (head_len n) ys keys → ⊥))) same_level
    (subst (λ (l : List (List ℕ)). (e ≡ Memory) ⊎ ((e ≡ Broken page 1 0) × ((keys : List K) → AreKeys valid bytes (head_len a) l keys → ⊥))) same_items cause)
