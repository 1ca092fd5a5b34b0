-- Lists, and how often a page stands in them.
use Rattle.std.proofs.Common.{◌≡◌, ◌≢◌, ◌⊎◌, ⊎_elim, ℕ, zero, suc, ◌+◌, ◌<◌, ◌≤◌, List, [], ◌∷◌, ◌++◌, length, map, take, drop, get_or, refl, sym, ◌∙◌, ap, subst, append_assoc, append-nil, add-one, arith}
use Rattle.std.specs.List.{AllByRecursion, flat_map, list_any}
use Rattle.std.proofs.lemmas.Bool.Decides.{eqb_tells}
use Rattle.std.specs.List.Sorted.{IsPermutation}
use Rattle.std.proofs.lemmas.List.Sorted.{IsPermutation-refl, IsPermutation-sym, IsPermutation-trans, IsPermutation-cons, IsPermutation-middle}
use Rattle.gx_pages.proofs.Footprints as feet

-- what stands at a place
pub record At {X : Type 0} (xs : List X) (i : ℕ) : Type 0 where
  pub item : X
  pub more : take (i + 1) xs ≡ take i xs ++ item ∷ []
  pub cut : xs ≡ take i xs ++ item ∷ drop (i + 1) xs
  pub is : (d : X) → get_or xs i d ≡ item

pub at_place : {X : Type 0} (xs : List X) (i : ℕ) → i < length xs → At xs i
at_place [] i below = absurd (omega (arith, below))
at_place (x ∷ xs) zero below = record { item = x; more = refl; cut = refl; is = λ d. refl }
at_place {X} (x ∷ xs) (suc i) below =
    let rest = at_place xs i (omega (arith, below)) in
    record {
      item = rest.item;
      more = rw (add-one) (let e = rw add-one at rest.more in ap (λ (l : List X). x ∷ l) e);
      cut = rw (add-one) (let e = rw add-one at rest.cut in ap (λ (l : List X). x ∷ l) e);
      is = rest.is;
    }

pub flat_map_append : {X A : Type 0} (f : X → List A) (xs ys : List X) → flat_map f (xs ++ ys) ≡ flat_map f xs ++ flat_map f ys
flat_map_append f [] ys = refl
flat_map_append {X} {A} f (x ∷ xs) ys = ap (λ (l : List A). f x ++ l) (flat_map_append f xs ys) ∙ sym (append_assoc (f x) (flat_map f xs) (flat_map f ys))

pub all_map : {X Y : Type 0} (f : X → Y) (Q : Y → Type 0) (xs : List X) → AllByRecursion (λ x. Q (f x)) xs → AllByRecursion Q (map f xs)
all_map f Q [] all = tt
all_map f Q (x ∷ xs) all = (all.0, all_map f Q xs all.1)

pub all_unmap : {X Y : Type 0} (f : X → Y) (Q : Y → Type 0) (xs : List X) → AllByRecursion Q (map f xs) → AllByRecursion (λ x. Q (f x)) xs
all_unmap f Q [] all = tt
all_unmap f Q (x ∷ xs) all = (all.0, all_unmap f Q xs all.1)

-- a list that has the page
record Has (page : ℕ) (xs : List ℕ) : Type 0 where
  pub front : List ℕ
  pub back : List ℕ
  pub cut : xs ≡ front ++ page ∷ back

has_some : (page : ℕ) (xs : List ℕ) → 0 < feet.times page xs → Has page xs
has_some page [] some = absurd (omega (arith, some))
has_some page (x ∷ xs) some =
    ⊎_elim
    (λ same. record { front = []; back = xs; cut = ap (λ (n : ℕ). n ∷ xs) (sym same.1) })
    (λ other.
    let none = feet.hit_none page x other.1 in
    let rest = has_some page xs (omega (arith, some, none)) in
    record { front = x ∷ rest.front; back = rest.back; cut = ap (λ (l : List ℕ). x ∷ l) rest.cut })
    (eqb_tells page x)

-- two lists in which each page stands as often are the same but for their order
pub permuted : (xs ys : List ℕ) → ((n : ℕ) → feet.times n xs ≡ feet.times n ys) → IsPermutation xs ys
permuted [] [] same = IsPermutation-refl []
permuted [] (y ∷ ys) same = absurd (let here = same y in let one = feet.times_one y ys in omega (arith, here, one))
permuted (x ∷ xs) ys same =
    let here = has_some x ys (let e = same x in let one = feet.times_one x xs in omega (arith, e, one)) in
    let rest = permuted xs (here.front ++ here.back) (λ n.
    let e : feet.times n (x ∷ xs) ≡ feet.times n (here.front ++ x ∷ here.back) = same n ∙ ap (λ (l : List ℕ). feet.times n l) here.cut in
    omega (arith, e, feet.times-append n here.front (x ∷ here.back), feet.times-append n here.front here.back)) in
    IsPermutation-trans (x ∷ xs) (x ∷ (here.front ++ here.back)) ys (IsPermutation-cons x xs (here.front ++ here.back) rest)
    (subst (λ (l : List ℕ). IsPermutation (x ∷ (here.front ++ here.back)) l) (sym here.cut)
    (IsPermutation-sym (here.front ++ x ∷ here.back) (x ∷ (here.front ++ here.back)) (IsPermutation-middle here.front x here.back)))

pub get_at : {X Y : Type 0} (f : X → Y) (xs : List X) (i : ℕ) (below : i < length xs) (d : Y) → get_or (map f xs) i d ≡ f (at_place xs i below).item
unfolding at_place
get_at f [] i below d = absurd (omega (arith, below))
get_at f (x ∷ xs) zero below d = refl
get_at f (x ∷ xs) (suc i) below d = get_at f xs i (omega (arith, below)) d

pub all_place : {X : Type 0} (Q : X → Type 0) (xs : List X) (i : ℕ) (below : i < length xs) → AllByRecursion Q xs → Q (at_place xs i below).item
unfolding at_place
all_place Q [] i below all = absurd (omega (arith, below))
all_place Q (x ∷ xs) zero below all = all.0
all_place Q (x ∷ xs) (suc i) below all = all_place Q xs i (omega (arith, below)) all.1

pub map_map : {X Y Z : Type 0} (f : X → Y) (g : Y → Z) (xs : List X) → map g (map f xs) ≡ map (λ x. g (f x)) xs
map_map f g [] = refl
map_map {X} {Y} {Z} f g (x ∷ xs) = ap (λ (l : List Z). g (f x) ∷ l) (map_map f g xs)
