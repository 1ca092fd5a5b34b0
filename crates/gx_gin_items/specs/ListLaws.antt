-- Tests of lists, and what is in them.
use Rattle.std.specs.Prelude.{◌≡◌, ◌⊎◌, zero, suc, Bool, true, false, ◌&&◌, ◌||◌, List, [], ◌∷◌, map, Contains, refl}
use Rattle.std.specs.List.{list_any, list_all, flat_map}
use Rattle.std.proofs.Common.{sym, ap, subst, inl, inr, arith, true≢false}
use Rattle.std.proofs.lemmas.List.Elements.{Contains-append_left, Contains-append_right, Contains-append_cases}
use Rattle.std.proofs.lemmas.List.Folds.{Any-from_list_any, list_any-from_Any}

pub here : {X : Type 0} (x : X) (xs : List X) → Contains (x ∷ xs) x
here x xs = (0, omega arith, refl)

pub there : {X : Type 0} (y x : X) (xs : List X) → Contains xs x → Contains (y ∷ xs) x
there y x xs c = (suc c.0, omega (arith, c.1), c.2)

pub none_in : {X : Type 0} (x : X) → Contains [] x → ⊥
none_in x c = omega (arith, c.1)

pub in_cases : {X : Type 0} (y x : X) (xs : List X) → Contains (y ∷ xs) x → (y ≡ x) ⊎ Contains xs x
in_cases y x xs (zero, below, is) = inl is
in_cases y x xs (suc k, below, is) = inr (k, omega (arith, below), is)

pub both_true : (a b : Bool) → a ≡ true → b ≡ true → (a && b) ≡ true
both_true a b p q = rw (p, q) refl

pub left_true : (a b : Bool) → (a && b) ≡ true → a ≡ true
left_true true b e = refl
left_true false b e = absurd (true≢false (sym e))

pub right_true : (a b : Bool) → (a && b) ≡ true → b ≡ true
right_true true b e = e
right_true false b e = absurd (true≢false (sym e))

pub all_true : {X : Type 0} (p : X → Bool) (xs : List X) → ((x : X) → Contains xs x → p x ≡ true) → list_all p xs ≡ true
all_true p [] f = refl
all_true p (x ∷ xs) f = both_true (p x) (list_all p xs) (f x (here x xs)) (all_true p xs (λ y c. f y (there x y xs c)))

pub true_all : {X : Type 0} (p : X → Bool) (xs : List X) → list_all p xs ≡ true → (x : X) → Contains xs x → p x ≡ true
true_all p [] e x c = absurd (none_in x c)
true_all p (y ∷ ys) e x c = elim (in_cases y x ys c) [
  | inl is ↦ subst (λ w. p w ≡ true) is (left_true (p y) (list_all p ys) e)
  | inr more ↦ true_all p ys (right_true (p y) (list_all p ys) e) x more
]

pub any_true : {X : Type 0} (p : X → Bool) (xs : List X) (x : X) → Contains xs x → p x ≡ true → list_any p xs ≡ true
any_true p xs x c e = list_any-from_Any p xs (c.0, x, c.1, c.2, e)

-- some element that passes
pub record Passes {X : Type 0} (p : X → Bool) (xs : List X) : Type 0 where
  pub one : X
  pub in' : Contains xs one
  pub is : p one ≡ true

pub true_any : {X : Type 0} (p : X → Bool) (xs : List X) → list_any p xs ≡ true → Passes p xs
true_any p xs e = let found = Any-from_list_any p xs e in record { one = found.1; in' = (found.0, found.2, found.3); is = found.4 }

pub any_map : {X Y : Type 0} (p : Y → Bool) (f : X → Y) (xs : List X) → list_any p (map f xs) ≡ list_any (λ x. p (f x)) xs
any_map p f [] = refl
any_map p f (x ∷ xs) = ap (λ b. p (f x) || b) (any_map p f xs)

-- what is in a list made from another
pub in_map : {X Y : Type 0} (f : X → Y) (xs : List X) (x : X) → Contains xs x → Contains (map f xs) (f x)
in_map f [] x c = absurd (none_in x c)
in_map f (y ∷ ys) x c = elim (in_cases y x ys c) [
  | inl is ↦ subst (λ w. Contains (f y ∷ map f ys) (f w)) is (here (f y) (map f ys))
  | inr more ↦ there (f y) (f x) (map f ys) (in_map f ys x more)
]

pub record IsMade {X Y : Type 0} (f : X → Y) (xs : List X) (y : Y) : Type 0 where
  pub from : X
  pub in' : Contains xs from
  pub is : f from ≡ y

pub of_map : {X Y : Type 0} (f : X → Y) (xs : List X) (y : Y) → Contains (map f xs) y → IsMade f xs y
of_map f [] y c = absurd (none_in y c)
of_map f (x ∷ xs) y c = elim (in_cases (f x) y (map f xs) c) [
  | inl is ↦ record { from = x; in' = here x xs; is = is }
  | inr more ↦ (let made = of_map f xs y more in record { from = made.from; in' = there x made.from xs made.in'; is = made.is })
]

pub in_flat_map : {X Y : Type 0} (f : X → List Y) (xs : List X) (x : X) (y : Y) → Contains xs x → Contains (f x) y → Contains (flat_map f xs) y
in_flat_map f [] x y c d = absurd (none_in x c)
in_flat_map f (w ∷ ws) x y c d = elim (in_cases w x ws c) [
  | inl is ↦ Contains-append_left (f w) (flat_map f ws) y (subst (λ v. Contains (f v) y) (sym is) d)
  | inr more ↦ Contains-append_right (f w) (flat_map f ws) y (in_flat_map f ws x y more d)
]

pub record IsPart {X Y : Type 0} (f : X → List Y) (xs : List X) (y : Y) : Type 0 where
  pub from : X
  pub in' : Contains xs from
  pub has : Contains (f from) y

pub of_flat_map : {X Y : Type 0} (f : X → List Y) (xs : List X) (y : Y) → Contains (flat_map f xs) y → IsPart f xs y
of_flat_map f [] y c = absurd (none_in y c)
of_flat_map f (x ∷ xs) y c = elim (Contains-append_cases (f x) (flat_map f xs) y c) [
  | inl own ↦ record { from = x; in' = here x xs; has = own }
  | inr more ↦ (let part = of_flat_map f xs y more in record { from = part.from; in' = there x part.from xs part.in'; has = part.has })
]
