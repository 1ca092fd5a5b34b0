-- Places of lists.
use Rattle.std.proofs.Common.{◌≡◌, ℕ, zero, suc, ◌+◌, ◌<◌, ◌≤◌, List, [], ◌∷◌, ◌++◌, length, map, take, drop, slice_set, Option, All, refl, ◌∙◌, ap, subst, append-nil, arith}
use Rattle.std.specs.Prelude.{sum_by}
use Rattle.std.specs.List.{flat_map}
use Rattle.std.proofs.lemmas.Grind.{flat_map-append}
use Rattle.std.proofs.lemmas.List.Sums.{sum_by-append}
use Rattle.std.proofs.lemmas.List.Elements.{All-head, All-tail}
use Rattle.gx_slot.specs.Slots.{item_at}

-- a place of a list
pub record At {X : Type 0} (xs : List X) (k : ℕ) : Type 0 where
  pub item : X
  pub back : List X
  pub split : xs ≡ take k xs ++ item ∷ back
  pub more : take (k + 1) xs ≡ take k xs ++ item ∷ []
  pub mapped : (f : X → Option (List ℕ)) → item_at (map f xs) k ≡ f item
  pub rest : drop k xs ≡ item ∷ back
  pub next : drop (k + 1) xs ≡ back
  pub len : length (take k xs) ≡ k

at_suc : {X : Type 0} (xs : List X) (k : ℕ) → k < length xs → (item : X) × (back : List X) × (xs ≡ take k xs ++ item ∷ back) × (take (suc k) xs ≡ take k xs ++ item ∷ [])
    × ((f : X → Option (List ℕ)) → item_at (map f xs) k ≡ f item) × (drop k xs ≡ item ∷ back) × (drop (suc k) xs ≡ back) × (length (take k xs) ≡ k)
at_suc [] k h = absurd (omega (arith, h))
at_suc (x ∷ xs) zero h = (x, xs, refl, refl, (λ f. refl), refl, refl, refl)
at_suc {X} (x ∷ xs) (suc k) h =
    let r = at_suc xs k (omega (arith, h)) in
    (r.0, r.1, ap (λ (l : List X). x ∷ l) r.2, ap (λ (l : List X). x ∷ l) r.3, r.4, r.5, r.6, ap (λ (n : ℕ). suc n) r.7)

pub at : {X : Type 0} (xs : List X) (k : ℕ) → k < length xs → At xs k
at {X} xs k h =
    let r = at_suc xs k h in
    let e : k + 1 ≡ suc k = omega arith in
    record { item = r.0; back = r.1; split = r.2; more = ap (λ (n : ℕ). take n xs) e ∙ r.3; mapped = r.4; rest = r.5; next = ap (λ (n : ℕ). drop n xs) e ∙ r.6; len = r.7 }

pub all_at : {X : Type 0} (P : X → Type 0) (xs front : List X) (item : X) (back : List X) → xs ≡ front ++ item ∷ back → All P xs → P item
all_at P xs front item back is all = here front (subst (λ (l : List _). All P l) is all)
  where
    here : (front : List _) → All P (front ++ item ∷ back) → P item
    here [] all = All-head P item back all
    here (x ∷ front) all = here front (All-tail P x (front ++ item ∷ back) all)

-- what one place more adds
pub flat_more : {X Y : Type 0} (f : X → List Y) (xs : List X) (k : ℕ) (a : At xs k) → flat_map f (take (k + 1) xs) ≡ flat_map f (take k xs) ++ f a.item
flat_more {X} {Y} f xs k a = ap (λ (l : List X). flat_map f l) a.more ∙ flat_map-append f (take k xs) (a.item ∷ []) ∙ ap (λ (l : List Y). flat_map f (take k xs) ++ l) (append-nil (f a.item))

pub flat_split : {X Y : Type 0} (f : X → List Y) (xs : List X) (k : ℕ) (a : At xs k) → flat_map f xs ≡ flat_map f (take k xs) ++ (f a.item ++ flat_map f a.back)
flat_split {X} f xs k a = ap (λ (l : List X). flat_map f l) a.split ∙ flat_map-append f (take k xs) (a.item ∷ a.back)

pub sum_more : {X : Type 0} (f : X → ℕ) (xs : List X) (k : ℕ) (a : At xs k) → sum_by f (take (k + 1) xs) ≡ sum_by f (take k xs) + f a.item
sum_more {X} f xs k a =
    let one : sum_by f (a.item ∷ []) ≡ f a.item = omega arith in
    ap (λ (l : List X). sum_by f l) a.more ∙ sum_by-append f (take k xs) (a.item ∷ []) ∙ ap (λ (n : ℕ). sum_by f (take k xs) + n) one

pub sum_split : {X : Type 0} (f : X → ℕ) (xs : List X) (k : ℕ) (a : At xs k) → sum_by f (take k xs) + f a.item ≤ sum_by f xs
sum_split {X} f xs k a =
    let all = ap (λ (l : List X). sum_by f l) a.split ∙ sum_by-append f (take k xs) (a.item ∷ a.back) in
    let one : sum_by f ((a.item ∷ []) ++ a.back) ≡ sum_by f (a.item ∷ []) + sum_by f a.back = sum_by-append f (a.item ∷ []) a.back in
    let same : sum_by f (a.item ∷ a.back) ≡ f a.item + sum_by f a.back = one ∙ (let first : sum_by f (a.item ∷ []) ≡ f a.item = omega arith in ap (λ (n : ℕ). n + sum_by f a.back) first) in
    omega (arith, all, same)

pub take_whole : {X : Type 0} (xs : List X) (k : ℕ) → length xs ≤ k → take k xs ≡ xs
take_whole [] zero h = refl
take_whole [] (suc k) h = refl
take_whole (x ∷ xs) zero h = absurd (omega (arith, h))
take_whole {X} (x ∷ xs) (suc k) h = ap (λ (l : List X). x ∷ l) (take_whole xs k (omega (arith, h)))

pub length_mapped : {X Y : Type 0} (f : X → Y) (xs : List X) → length (map f xs) ≡ length xs
length_mapped f [] = refl
length_mapped f (x ∷ xs) = let rest = length_mapped f xs in omega arith

-- an item in the middle, and another one put there
pub item_mid : (front : List (Option (List ℕ))) (item : Option (List ℕ)) (back : List (Option (List ℕ))) (k : ℕ) → length front ≡ k → item_at (front ++ item ∷ back) k ≡ item
item_mid [] item back zero is = refl
item_mid [] item back (suc k) is = absurd (omega (arith, is))
item_mid (x ∷ front) item back zero is = absurd (omega (arith, is))
item_mid (x ∷ front) item back (suc k) is = item_mid front item back k (omega (arith, is))

pub set_mid : {X : Type 0} (front : List X) (item other : X) (back : List X) (k : ℕ) → length front ≡ k → slice_set (front ++ item ∷ back) k other ≡ front ++ other ∷ back
set_mid [] item other back zero is = refl
set_mid [] item other back (suc k) is = absurd (omega (arith, is))
set_mid (x ∷ front) item other back zero is = absurd (omega (arith, is))
set_mid {X} (x ∷ front) item other back (suc k) is = ap (λ (l : List X). x ∷ l) (set_mid front item other back k (omega (arith, is)))
