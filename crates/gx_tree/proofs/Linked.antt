-- Items that name pages.
use Rattle.std.proofs.Common.{◌≡◌, ◌≢◌, ℕ, zero, suc, ◌+◌, ◌-◌, ◌^◌, ◌<◌, ◌≤◌, List, [], ◌∷◌, ◌++◌, length, map, take, drop, get_or, Option, Some, None, refl, sym, ◌∙◌, ap, subst, append_assoc, append-nil, length-append, arith}
use Rattle.std.specs.List.{AllByRecursion}
use Rattle.std.proofs.lemmas.List.{drop_at, take_all, map-append}
use Rattle.gx_tree.proofs.Lists.{At, at_place}
use Rattle.gx_bytes.specs.Fields.{le64, le64-same, length-le64}
use Rattle.gx_slot.specs.Slots.{item_at}
use Rattle.gx_tree.specs.Trees.{link}

pub item_link : (items : List (List ℕ × ℕ)) (slot : ℕ) (d : List ℕ × ℕ) → slot < length items → item_at (map link items) slot ≡ link (get_or items slot d)
item_link [] slot d below = absurd (omega (arith, below))
item_link (item ∷ items) zero d below = refl
item_link (item ∷ items) (suc slot) d below = item_link items slot d (omega (arith, below))

pub all_at : {X : Type 0} (Q : X → Type 0) (xs : List X) (i : ℕ) (d : X) → i < length xs → AllByRecursion Q xs → Q (get_or xs i d)
all_at Q [] i d below all = absurd (omega (arith, below))
all_at Q (x ∷ xs) zero d below all = all.0
all_at Q (x ∷ xs) (suc i) d below all = all_at Q xs i d (omega (arith, below)) all.1

module _ (its : List (Option (List ℕ))) (items : List (List ℕ × ℕ)) (slot : ℕ) (d : List ℕ × ℕ) (are : its ≡ map link items) (fit : AllByRecursion (λ item. item.1 < 2 ^ 64) items) (below : slot < length items) where
  here : item_at its slot ≡ link (get_or items slot d)
  here = ap (λ (l : List (Option (List ℕ))). item_at l slot) are ∙ item_link items slot d below

  pub no_item : item_at its slot ≡ None → ⊥
  no_item none = let e : None ≡ link (get_or items slot d) = sym none ∙ here in cc

  module _ (item : List ℕ) (is : item_at its slot ≡ Some item) where
    item_is : item ≡ (get_or items slot d).0 ++ le64 (get_or items slot d).1
    item_is = let e : Some item ≡ link (get_or items slot d) = sym is ∙ here in cc

    item_len : length item ≡ length (get_or items slot d).0 + 8
    item_len = ap (λ (l : List ℕ). length l) item_is ∙ length-append (get_or items slot d).0 (le64 (get_or items slot d).1) ∙ ap (λ (n : ℕ). length (get_or items slot d).0 + n) (length-le64 (get_or items slot d).1)

    pub long : 8 ≤ length item
    long = omega (arith, item_len)

    pub child_is : (at n : ℕ) → at + 8 ≡ length item → n < 2 ^ 64 → take 8 (drop at item) ≡ le64 n → n ≡ (get_or items slot d).1
    child_is at n place fits read =
        let front = (get_or items slot d).0 in
        let child = (get_or items slot d).1 in
        let tail : drop at item ≡ le64 child = ap (λ (l : List ℕ). drop at l) item_is ∙ drop_at front (le64 child) at (omega (arith, place, item_len)) in
        let all : take 8 (drop at item) ≡ le64 child = ap (λ (l : List ℕ). take 8 l) tail ∙ take_all 8 (le64 child) (omega (arith, length-le64 child)) in
        le64-same n child fits (all_at (λ (i : List ℕ × ℕ). i.1 < 2 ^ 64) items slot d below fit) (sym read ∙ all)

pub push_step : (old to : List ℕ) (items : List (List ℕ × ℕ)) (slot child : ℕ) → slot < length items → ((front : List ℕ) (c : ℕ) → child ≡ (get_or items slot (front, c)).1)
    → to ≡ old ++ map (λ item. item.1) (take slot items) → to ++ child ∷ [] ≡ old ++ map (λ item. item.1) (take (slot + 1) items)
push_step old to items slot child below is so_far =
    let place = at_place items slot below in
    let last : child ≡ place.item.1 = is [] 0 ∙ ap (λ (i : List ℕ × ℕ). i.1) (place.is ([], 0)) in
    ap (λ (l : List ℕ). l ++ child ∷ []) so_far
    ∙ append_assoc old (map (λ (i : List ℕ × ℕ). i.1) (take slot items)) (child ∷ [])
    ∙ ap (λ (l : List ℕ). old ++ l) (ap (λ (n : ℕ). map (λ (i : List ℕ × ℕ). i.1) (take slot items) ++ n ∷ []) last
    ∙ sym (map-append (λ (i : List ℕ × ℕ). i.1) (take slot items) (place.item ∷ [])) ∙ ap (λ (l : List (List ℕ × ℕ)). map (λ (i : List ℕ × ℕ). i.1) l) (sym place.more))
