-- Places in lists of entries and of pages.
use Rattle.std.proofs.Common.{◌≡◌, ◌≢◌, ℕ, ◌+◌, ◌<◌, ◌≤◌, zero, suc, List, [], ◌∷◌, ◌++◌, length, map, take, drop, get_or, set, refl, sym, ◌∙◌, ap, subst, append_assoc, add-one, arith}
use Rattle.std.specs.List.{AllByRecursion}
use Rattle.gx_pages.proofs.Footprints as feet
use Rattle.gx_chain.specs.declared.entry.Entry.{Entry}
use Rattle.gx_chain.specs.Chains.{IsBehind}

-- the last of these pages, or 0
abbrev pub EndsWith : List ℕ → ℕ → Type 0
EndsWith pages last = last ≢ 0 → (front : List ℕ) × (pages ≡ front ++ last ∷ [])

module _ {X : Type 0} where
  pub take_next : (xs : List X) (k : ℕ) (x : X) → k < length xs → x ≡ get_or xs k x → take (suc k) xs ≡ take k xs ++ x ∷ []
  take_next [] k x below is = absurd (omega arith)
  take_next (y ∷ xs) zero x below is = ap (λ (z : X). z ∷ []) (sym is)
  take_next (y ∷ xs) (suc k) x below is = ap (λ (l : List X). y ∷ l) (take_next xs k x (omega arith) is)

  pub cut_at : (xs : List X) (k : ℕ) (x : X) → k < length xs → x ≡ get_or xs k x → xs ≡ take k xs ++ x ∷ drop (suc k) xs
  cut_at [] k x below is = absurd (omega arith)
  cut_at (y ∷ xs) zero x below is = ap (λ (z : X). z ∷ xs) (sym is)
  cut_at (y ∷ xs) (suc k) x below is = ap (λ (l : List X). y ∷ l) (cut_at xs k x (omega arith) is)

  pub all_next : (P : X → Type 0) (xs : List X) (k n : ℕ) (x : X) → n ≡ suc k → k < length xs → x ≡ get_or xs k x → AllByRecursion P (take k xs) → P x → AllByRecursion P (take n xs)
  all_next P xs k n x at below is all here =
      subst (λ (m : ℕ). AllByRecursion P (take m xs)) (sym at)
      (subst (λ (l : List X). AllByRecursion P l) (sym (take_next xs k x below is)) (feet.all_join P (take k xs) (x ∷ []) all (here, tt)))

  pub all_end : (P : X → Type 0) (xs : List X) (k : ℕ) → length xs ≤ k → AllByRecursion P (take k xs) → AllByRecursion P xs
  all_end P [] k long all = tt
  all_end P (x ∷ xs) zero long all = absurd (omega arith)
  all_end P (x ∷ xs) (suc k) long all = (all.0, all_end P xs k (omega arith) all.1)

at_default : (xs : List ℕ) (k d e : ℕ) → k < length xs → get_or xs k d ≡ get_or xs k e
at_default [] k d e below = absurd (omega arith)
at_default (x ∷ xs) zero d e below = refl
at_default (x ∷ xs) (suc k) d e below = at_default xs k d e (omega arith)

pub here_at : (pages : List ℕ) (k page : ℕ) → k < length pages → get_or pages k 0 ≡ page → page ≡ get_or pages k page
here_at pages k page below is = sym is ∙ at_default pages k 0 page below

pub ends_next : (pages : List ℕ) (k n page : ℕ) → n ≡ suc k → k < length pages → page ≡ get_or pages k page → EndsWith (take n pages) page
ends_next pages k n page at below is = λ some. (take k pages, ap (λ (m : ℕ). take m pages) at ∙ take_next pages k page below is)

pub before_this : (pages : List ℕ) (k page before : ℕ) → k < length pages → page ≡ get_or pages k page → EndsWith (take k pages) before → IsBehind before page pages
before_this pages k page before below is ends = λ some.
    let front = ends some in (
      front.0,
      drop (suc k) pages,
      cut_at pages k page below is ∙ ap (λ (l : List ℕ). l ++ page ∷ drop (suc k) pages) front.1 ∙ append_assoc front.0 (before ∷ []) (page ∷ drop (suc k) pages),
    )

-- a list whose first elements are changed, one after another
module _ {X : Type 0} (f : X → X) where
  abbrev half : List X → ℕ → List X
  half xs k = map f (take k xs) ++ drop k xs

  half_at : (xs : List X) (k : ℕ) (d : X) → k < length xs → get_or (half xs k) k d ≡ get_or xs k d
  half_at [] k d below = absurd (omega arith)
  half_at (x ∷ xs) zero d below = refl
  half_at (x ∷ xs) (suc k) d below = half_at xs k d (omega arith)

  half_next : (xs : List X) (k : ℕ) (d : X) → k < length xs → half xs (suc k) ≡ set (half xs k) k (f (get_or xs k d))
  half_next [] k d below = absurd (omega arith)
  half_next (x ∷ xs) zero d below = refl
  half_next (x ∷ xs) (suc k) d below = ap (λ (l : List X). f x ∷ l) (half_next xs k d (omega arith))

  module _ (xs items later : List X) (k n : ℕ) (x : X) (at : n ≡ suc k) (below : k < length xs) (is : x ≡ get_or items k x) (so_far : items ≡ half xs k) where
    here : x ≡ get_or xs k x
    here = is ∙ ap (λ (l : List X). get_or l k x) so_far ∙ half_at xs k x below

    next : half xs n ≡ set items k (f x)
    next = ap (λ (m : ℕ). half xs m) at ∙ half_next xs k x below ∙ ap (λ (y : X). set (half xs k) k (f y)) (sym here) ∙ ap (λ (l : List X). set l k (f x)) (sym so_far)

    pub half_changed : (y : X) → y ≡ f x → later ≡ set items k y → later ≡ half xs n
    half_changed y gives put = put ∙ ap (λ (z : X). set items k z) gives ∙ sym next
