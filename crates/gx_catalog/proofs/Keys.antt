-- What is found by a key, and keys that differ.
use Rattle.std.proofs.Common.{◌≡◌, ◌≢◌, ◌⊎◌, inl, inr, Bool, true, false, not, cond, ℕ, List, [], ◌∷◌, ◌++◌, map, find, filter, Option, Some, None, refl, sym, ◌∙◌, ap, subst}
use Rattle.std.specs.Bool.{Decides}
use Rattle.std.specs.List.{AllByRecursion}
use Rattle.gx_catalog.specs.Validity.{AreDistinct, IsAmong}

module _ {X K : Type 0} (key : X → K) (test : K → K → Bool) (decides : (a b : K) → Decides (test a b) (a ≡ b)) where
  differs : (a b : K) → test a b ≡ false → a ≢ b
  differs a b other same = let never : false ≡ true = sym other ∙ (decides a b).1 same in cc

  none_step : (x : X) (xs : List X) (k : K) (b : Bool) → test (key x) k ≡ b → (find (λ y. test (key y) k) xs ≡ None → AllByRecursion (λ other. other ≢ k) (map key xs))
      → cond b (Some x) (find (λ y. test (key y) k) xs) ≡ None → AllByRecursion (λ other. other ≢ k) (key x ∷ map key xs)
  none_step x xs k true is rest none = cc
  none_step x xs k false is rest none = (differs (key x) k is, rest none)

  pub find_none : (xs : List X) (k : K) → find (λ y. test (key y) k) xs ≡ None → AllByRecursion (λ other. other ≢ k) (map key xs)
  find_none [] k none = tt
  find_none (x ∷ xs) k none = none_step x xs k (test (key x) k) refl (find_none xs k) none

  other_step : (x : X) (xs : List X) (k : K) (b : Bool) → test (key x) k ≡ b → key x ≢ k → find (λ y. test (key y) k) xs ≡ None → cond b (Some x) (find (λ y. test (key y) k) xs) ≡ None
  other_step x xs k true is differ none = absurd (differ ((decides (key x) k).0 is))
  other_step x xs k false is differ none = none

  pub none_find : (xs : List X) (k : K) → AllByRecursion (λ other. other ≢ k) (map key xs) → find (λ y. test (key y) k) xs ≡ None
  none_find [] k differ = refl
  none_find (x ∷ xs) k differ = other_step x xs k (test (key x) k) refl differ.0 (none_find xs k differ.1)

  some_step : (x : X) (xs : List X) (k : K) (found : X) (b : Bool) → test (key x) k ≡ b → (find (λ y. test (key y) k) xs ≡ Some found → IsAmong found xs × (key found ≡ k))
      → cond b (Some x) (find (λ y. test (key y) k) xs) ≡ Some found → IsAmong found (x ∷ xs) × (key found ≡ k)
  some_step x xs k found true is rest some = let same : x ≡ found = cc in (inl same, ap key (sym same) ∙ (decides (key x) k).0 is)
  some_step x xs k found false is rest some = let later = rest some in (inr later.0, later.1)

  pub find_some : (xs : List X) (k : K) (found : X) → find (λ y. test (key y) k) xs ≡ Some found → IsAmong found xs × (key found ≡ k)
  find_some [] k found some = cc
  find_some (x ∷ xs) k found some = some_step x xs k found (test (key x) k) refl (find_some xs k found) some

  -- where one has the key, one is found
  pub record Found (xs : List X) (k : K) : Type 0 where
    pub found : X
    pub is : find (λ y. test (key y) k) xs ≡ Some found

  here_step : (x : X) (xs : List X) (k : K) (b : Bool) → test (key x) k ≡ b → (b ≡ false → Found xs k) → Found (x ∷ xs) k
  here_step x xs k true is rest = record { found = x; is = ap (λ (b : Bool). cond b (Some x) (find (λ y. test (key y) k) xs)) is }
  here_step x xs k false is rest = let later = rest refl in record { found = later.found; is = ap (λ (b : Bool). cond b (Some x) (find (λ y. test (key y) k) xs)) is ∙ later.is }

  pub among_found : (xs : List X) (k : K) (one : X) → IsAmong one xs → key one ≡ k → Found xs k
  among_found [] k one among has = absurd among
  among_found (x ∷ xs) k one (inl same) has =
      let yes : test (key x) k ≡ true = (decides (key x) k).1 (ap key same ∙ has) in
      record { found = x; is = ap (λ (b : Bool). cond b (Some x) (find (λ y. test (key y) k) xs)) yes }
  among_found (x ∷ xs) k one (inr later) has = here_step x xs k (test (key x) k) refl (λ other. among_found xs k one later has)
