-- The first place of a least number.
use Rattle.std.proofs.Common.{◌≡◌, ⊎_elim, ℕ, ◌+◌, ◌<◌, ◌≤◌, List, ◌∷◌, length, map, take, get_or, Option, Some, All, sym, ◌∙◌, ap, arith}
use Rattle.std.proofs.lemmas.Bool.{cases_lt}
use Rattle.std.proofs.lemmas.List.{get_or_at, map-append}
use Rattle.gx_slot.specs.Slots.{item_at}
use Rattle.gx_gist_tree.specs.Insertion.{IsLeastPlace}
use Rattle.gx_gist_tree.specs.OnPages.{inner_item}
use Rattle.gx_gist_tree.proofs.Places.{At, at, all_at, length_mapped}

-- the first place of a least number among so many
pub record IsSoFar (numbers : List ℕ) (best least n : ℕ) : Type 0 where
  pub below : best < n
  pub is : least ≡ get_or numbers best 0
  pub least_of : (k : ℕ) → k < n → least ≤ get_or numbers k 0
  pub first : (k : ℕ) → k < best → least < get_or numbers k 0

same_place : (numbers : List ℕ) (k n : ℕ) → k ≡ n → get_or numbers k 0 ≡ get_or numbers n 0
same_place numbers k n is = ap (λ (m : ℕ). get_or numbers m 0) is

pub so_far_first : (numbers : List ℕ) (least : ℕ) → least ≡ get_or numbers 0 0 → IsSoFar numbers 0 least 1
so_far_first numbers least is = record {
  below = omega arith;
  is = is;
  least_of = λ k h. let e : k ≡ 0 = omega (arith, h) in let s = same_place numbers k 0 e in omega (arith, is, s);
  first = λ k h. absurd (omega (arith, h));
}

pub so_far_less : (numbers : List ℕ) (best least n v : ℕ) → IsSoFar numbers best least n → v ≡ get_or numbers n 0 → v < least → IsSoFar numbers n v (n + 1)
so_far_less numbers best least n v far is less = record {
  below = omega arith;
  is = is;
  least_of = λ k h. ⊎_elim
      (λ small. let x = far.least_of k small in omega (arith, x, less))
      (λ big. let e : k ≡ n = omega (arith, h, big) in let s = same_place numbers k n e in omega (arith, is, s))
      (cases_lt k n);
  first = λ k h. let x = far.least_of k h in omega (arith, x, less);
}

pub so_far_more : (numbers : List ℕ) (best least n v : ℕ) → IsSoFar numbers best least n → v ≡ get_or numbers n 0 → least ≤ v → IsSoFar numbers best least (n + 1)
so_far_more numbers best least n v far is more = record {
  below = let b = far.below in omega (arith, b);
  is = far.is;
  least_of = λ k h. ⊎_elim
      (λ small. far.least_of k small)
      (λ big. let e : k ≡ n = omega (arith, h, big) in let s = same_place numbers k n e in omega (arith, is, s, more))
      (cases_lt k n);
  first = far.first;
}

pub so_far_all : (numbers : List ℕ) (best least n : ℕ) → IsSoFar numbers best least n → n ≡ length numbers → IsLeastPlace numbers best
so_far_all numbers best least n far all = record {
  below = let b = far.below in omega (arith, b, all);
  least = λ k h. let x = far.least_of k (omega (arith, h, all)) in let i = far.is in omega (arith, x, i);
  first = λ k h. let x = far.first k h in let i = far.is in omega (arith, x, i);
}

pub so_far_none : (numbers : List ℕ) (best least n : ℕ) → IsSoFar numbers best least n → n ≤ length numbers → least ≡ 0 → IsLeastPlace numbers best
so_far_none numbers best least n far all none = record {
  below = let b = far.below in omega (arith, b, all);
  least = λ k h. let i = far.is in omega (arith, none, i);
  first = λ k h. let x = far.first k h in let i = far.is in omega (arith, x, i);
}

-- what a list has at a place
pub get_mapped : {X : Type 0} (f : X → ℕ) (xs : List X) (k : ℕ) (a : At xs k) → get_or (map f xs) k 0 ≡ f a.item
get_mapped {X} f xs k a =
    ap (λ (l : List X). get_or (map f l) k 0) a.split ∙ ap (λ (l : List ℕ). get_or l k 0) (map-append f (take k xs) (a.item ∷ a.back))
    ∙ get_or_at (map f (take k xs)) (f a.item) (map f a.back) 0 k (length_mapped f (take k xs) ∙ a.len)

-- a slot of a page with these items
module _ {K : Type 0} (valid : K → Type 0) (bytes : K → List ℕ) (growth : K → ℕ) (slots : List (Option (List ℕ))) (items : List (ℕ × K)) (all : All (λ item. valid item.1) items)
    (is : slots ≡ map (λ item. Some (inner_item bytes item.0 item.1)) items) where
  pub many_items : length slots ≡ length items
  many_items = ap (λ (l : List (Option (List ℕ))). length l) is ∙ length_mapped (λ (item : ℕ × K). Some (inner_item bytes item.0 item.1)) items

  pub many_numbers : length (map (λ item. growth item.1) items) ≡ length slots
  many_numbers = length_mapped (λ (item : ℕ × K). growth item.1) items ∙ sym many_items

  pub number_at : (slot penalty : ℕ) → slot < length slots → ((child : ℕ) (key : K) → valid key → item_at slots slot ≡ Some (inner_item bytes child key) → penalty ≡ growth key)
      → penalty ≡ get_or (map (λ item. growth item.1) items) slot 0
  number_at slot penalty small says =
      let a = at items slot (omega (arith, small, many_items)) in
      says a.item.0 a.item.1 (all_at (λ (item : ℕ × K). valid item.1) items (take slot items) a.item a.back a.split all)
      (ap (λ (l : List (Option (List ℕ))). item_at l slot) is ∙ a.mapped (λ (item : ℕ × K). Some (inner_item bytes item.0 item.1)))
      ∙ sym (get_mapped (λ (item : ℕ × K). growth item.1) items slot a)

  -- none of its slots is refused
  pub never_refused : (slot : ℕ) → slot < length slots → ((child : ℕ) (key : K) → valid key → item_at slots slot ≡ Some (inner_item bytes child key) → ⊥) → ⊥
  never_refused slot small refused =
      let a = at items slot (omega (arith, small, many_items)) in
      refused a.item.0 a.item.1 (all_at (λ (item : ℕ × K). valid item.1) items (take slot items) a.item a.back a.split all)
      (ap (λ (l : List (Option (List ℕ))). item_at l slot) is ∙ a.mapped (λ (item : ℕ × K). Some (inner_item bytes item.0 item.1)))
