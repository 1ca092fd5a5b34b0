-- Items of a page that were laid out anew, as rows with keys, or as keys with pages.
use Rattle.std.proofs.Common.{◌≡◌, ℕ, zero, suc, ◌+◌, ◌<◌, ◌≤◌, List, [], ◌∷◌, ◌++◌, length, map, take, drop, Option, Some, None, All, refl, sym, ◌∙◌, ap, subst, arith}
use Rattle.std.specs.List.{filter_map}
use Rattle.std.specs.Option.{option_map}
use Rattle.std.specs.List.Sorted.{IsPermutation}
use Rattle.std.proofs.lemmas.List.{map-append}
use Rattle.std.proofs.lemmas.List.Elements.{All-head, All-tail, All-nil, All-cons}
use Rattle.gx_slot.specs.Slots.{Slots}
use Rattle.gx_gist.specs.Places.{IsRearrangement}
use Rattle.gx_gist_tree.specs.Insertion.{AreKeys, AreHalves, IsUnion, head_len, items_but, items_in, page_with, picked}
use Rattle.gx_gist_tree.proofs.KeyFacts.{Spells, keys_one, length_map}
use Rattle.gx_gist_tree.proofs.Picks.{all_below, picked_append, picked_length, picked_map, picked_moved, somes}

all_first : {X : Type 0} (P : X → Type 0) (xs ys : List X) → All P (xs ++ ys) → All P xs
all_first P [] ys all = All-nil P
all_first P (x ∷ xs) ys all = All-cons P x xs (All-head P x (xs ++ ys) all) (all_first P xs ys (All-tail P x (xs ++ ys) all))

all_last : {X : Type 0} (P : X → Type 0) (xs ys : List X) → All P (xs ++ ys) → All P ys
all_last P [] ys all = all
all_last P (x ∷ xs) ys all = all_last P xs ys (All-tail P x (xs ++ ys) all)

-- two halves of a list
pub record IsCut {X K : Type 0} (union : K → K → K) (f : X → List ℕ) (k : X → K) (level : ℕ) (xs : List X) (slots other : Slots) (l r : K) : Type 0 where
  pub ys : List X
  pub zs : List X
  pub moved : IsPermutation xs (ys ++ zs)
  pub two_left : 2 ≤ length ys
  pub two_right : 2 ≤ length zs
  pub here : slots ≡ page_with level (map f ys)
  pub there : other ≡ page_with level (map f zs)
  pub left_union : IsUnion union (map k ys) l
  pub right_union : IsUnion union (map k zs) r

module _ {X K : Type 0} (valid : K → Type 0) (union : K → K → K) (bytes : K → List ℕ) (one : (a b : K) → valid a → valid b → bytes a ≡ bytes b → a ≡ b)
    (level : ℕ) (f : X → List ℕ) (k : X → K) (xs : List X) (spelled : All (Spells valid bytes (head_len level) f k) xs) (items : List (List ℕ)) (is : items ≡ map f xs) where
  module _ (slots other : Slots) (l r : K) (h : AreHalves valid union bytes level items slots other l r) where
    keys_are : h.keys ≡ map k xs
    keys_are = keys_one valid bytes (head_len level) f k one xs h.keys spelled (subst (λ (m : List (List ℕ)). AreKeys valid bytes (head_len level) m h.keys) is h.are)

    many : length items ≡ length xs
    many = ap (λ (m : List (List ℕ)). length m) is ∙ length_map f xs

    all_places : IsRearrangement (h.left ++ h.right) (length xs)
    all_places = subst (λ (n : ℕ). IsRearrangement (h.left ++ h.right) n) many h.all

    low : All (λ p. p < length xs) (h.left ++ h.right)
    low = all_below (length xs) (h.left ++ h.right) all_places

    side : (places : List ℕ) → picked items places ≡ map f (picked xs places)
    side places = ap (λ (m : List (List ℕ)). picked m places) is ∙ picked_map f xs places

    side_keys : (places : List ℕ) (key : K) → IsUnion union (picked h.keys places) key → IsUnion union (map k (picked xs places)) key
    side_keys places key united = subst (λ (m : List K). IsUnion union m key) (ap (λ (m : List K). picked m places) keys_are ∙ picked_map k xs places) united

    pub cut_of : IsCut union f k level xs slots other l r
    cut_of = record {
      ys = picked xs h.left;
      zs = picked xs h.right;
      moved = subst (λ (m : List X). IsPermutation xs m) (picked_append xs h.left h.right) (picked_moved xs (h.left ++ h.right) all_places);
      two_left = let n = picked_length xs h.left (all_first (λ (p : ℕ). p < length xs) h.left h.right low) in let t = h.two_left in omega (arith, n, t);
      two_right = let n = picked_length xs h.right (all_last (λ (p : ℕ). p < length xs) h.left h.right low) in let t = h.two_right in omega (arith, n, t);
      here = h.here ∙ ap (λ (m : List (List ℕ)). page_with level m) (side h.left);
      there = h.there ∙ ap (λ (m : List (List ℕ)). page_with level m) (side h.right);
      left_union = side_keys h.left l h.left_union;
      right_union = side_keys h.right r h.right_union;
    }

-- the items of slots, all of them or but one
pub items_in_map : {X : Type 0} (f : X → List ℕ) (slots : List (Option X)) → items_in (map (option_map f) slots) ≡ map f (filter_map (λ slot. slot) slots)
items_in_map f [] = refl
items_in_map f (None ∷ slots) = items_in_map f slots
items_in_map f (Some x ∷ slots) = ap (λ (l : List (List ℕ)). f x ∷ l) (items_in_map f slots)

pub items_in_somes : {X : Type 0} (f : X → List ℕ) (xs : List X) → items_in (map (λ x. Some (f x)) xs) ≡ map f xs
items_in_somes f [] = refl
items_in_somes f (x ∷ xs) = ap (λ (l : List (List ℕ)). f x ∷ l) (items_in_somes f xs)

take_map : {X Y : Type 0} (g : X → Y) (xs : List X) (n : ℕ) → take n (map g xs) ≡ map g (take n xs)
take_map g [] zero = refl
take_map g [] (suc n) = refl
take_map g (x ∷ xs) zero = refl
take_map {X} {Y} g (x ∷ xs) (suc n) = ap (λ (l : List Y). g x ∷ l) (take_map g xs n)

drop_map : {X Y : Type 0} (g : X → Y) (xs : List X) (n : ℕ) → drop n (map g xs) ≡ map g (drop n xs)
drop_map g [] zero = refl
drop_map g [] (suc n) = refl
drop_map g (x ∷ xs) zero = refl
drop_map g (x ∷ xs) (suc n) = drop_map g xs n

pub items_but_map : {X : Type 0} (f : X → List ℕ) (xs : List X) (slot : ℕ) → items_but (map (λ x. Some (f x)) xs) slot ≡ map f (take slot xs ++ drop (slot + 1) xs)
items_but_map {X} f xs slot =
    let g : X → Option (List ℕ) = λ x. Some (f x) in
    ap (λ (l : List (Option (List ℕ))). items_in l ++ items_in (drop (slot + 1) (map g xs))) (take_map g xs slot)
    ∙ ap (λ (l : List (Option (List ℕ))). items_in (map g (take slot xs)) ++ items_in l) (drop_map g xs (slot + 1))
    ∙ ap (λ (l : List (List ℕ)). l ++ items_in (map g (drop (slot + 1) xs))) (items_in_somes f (take slot xs))
    ∙ ap (λ (l : List (List ℕ)). map f (take slot xs) ++ l) (items_in_somes f (drop (slot + 1) xs))
    ∙ sym (map-append f (take slot xs) (drop (slot + 1) xs))

-- slots without an empty one
pub somes_map : {X : Type 0} (f : X → List ℕ) (xs : List X) → somes (map f xs) ≡ map (option_map f) (map (λ x. Some x) xs)
somes_map f [] = refl
somes_map f (x ∷ xs) = ap (λ (l : List (Option (List ℕ))). Some (f x) ∷ l) (somes_map f xs)

pub somes_items : {X : Type 0} (f : X → List ℕ) (xs : List X) → somes (map f xs) ≡ map (λ x. Some (f x)) xs
somes_items f [] = refl
somes_items f (x ∷ xs) = ap (λ (l : List (Option (List ℕ))). Some (f x) ∷ l) (somes_items f xs)

pub all_somes : {X : Type 0} (xs : List X) → filter_map (λ slot. slot) (map (λ x. Some x) xs) ≡ xs
all_somes [] = refl
all_somes {X} (x ∷ xs) = ap (λ (l : List X). x ∷ l) (all_somes xs)
