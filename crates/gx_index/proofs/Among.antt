-- What is among the elements of lists.
use Rattle.std.proofs.Common.{◌≡◌, inl, inr, ⊎_elim, ℕ, ◌<◌, Bool, true, false, cond, List, [], ◌∷◌, ◌++◌, map, refl, sym, ◌∙◌, ap, subst, arith}
use Rattle.std.specs.Prelude.{filter, IsPermutation}
use Rattle.std.specs.List.{AllByRecursion}
use Rattle.std.proofs.lemmas.List.Elements.{All-from_recursion, recursion_from_All}
use Rattle.std.proofs.lemmas.List.Sorted.{All-permutation, IsPermutation-sym}
use Rattle.gx_pages.specs.declared.row.RowRef.{RowRef}
use Rattle.gx_pages.specs.Rows.{AreBelow, IsRising}
use Rattle.gx_catalog.specs.Validity.{IsAmong}
use Rattle.gx_index.specs.Kept.{HaveSame}

module _ {X : Type 0} where
  pub of_all : (P : X → Type 0) (xs : List X) (x : X) → AllByRecursion P xs → IsAmong x xs → P x
  of_all P [] x all i = absurd i
  of_all P (y ∷ xs) x all i = ⊎_elim (λ e. subst P e all.0) (λ r. of_all P xs x all.1 r) i

  pub all_of : (P : X → Type 0) (xs : List X) → ((x : X) → IsAmong x xs → P x) → AllByRecursion P xs
  all_of P [] each = tt
  all_of P (y ∷ xs) each = (each y (inl refl), all_of P xs (λ x i. each x (inr i)))

  pub itself : (xs : List X) → AllByRecursion (λ x. IsAmong x xs) xs
  itself xs = all_of (λ x. IsAmong x xs) xs (λ x i. i)

  pub same_of : (xs ys : List X) → ((x : X) → IsAmong x xs → IsAmong x ys) → ((x : X) → IsAmong x ys → IsAmong x xs) → HaveSame xs ys
  same_of xs ys to from = record { there = all_of (λ x. IsAmong x ys) xs to; back = all_of (λ x. IsAmong x xs) ys from }

  pub to : {xs ys : List X} → HaveSame xs ys → (x : X) → IsAmong x xs → IsAmong x ys
  to {xs} {ys} same x i = of_all (λ z. IsAmong z ys) xs x same.there i

  pub from : {xs ys : List X} → HaveSame xs ys → (x : X) → IsAmong x ys → IsAmong x xs
  from {xs} {ys} same x i = of_all (λ z. IsAmong z xs) ys x same.back i

  moved : (xs ys : List X) → IsPermutation xs ys → (x : X) → IsAmong x ys → IsAmong x xs
  moved xs ys p x i =
      of_all (λ z. IsAmong z xs) ys x
      (recursion_from_All (λ z. IsAmong z xs) ys (All-permutation (λ z. IsAmong z xs) xs ys p (All-from_recursion (λ z. IsAmong z xs) xs (itself xs)))) i

  pub same_permuted : (xs ys : List X) → IsPermutation xs ys → HaveSame xs ys
  same_permuted xs ys p = same_of xs ys (moved ys xs (IsPermutation-sym xs ys p)) (moved xs ys p)

  pub same_trans : (xs ys zs : List X) → HaveSame xs ys → HaveSame ys zs → HaveSame xs zs
  same_trans xs ys zs a b = same_of xs zs (λ x i. to b x (to a x i)) (λ x i. from a x (from b x i))

  pub same_cons : (x : X) (xs ys : List X) → HaveSame xs ys → HaveSame (x ∷ xs) (x ∷ ys)
  same_cons x xs ys a =
      same_of (x ∷ xs) (x ∷ ys) (λ z i. ⊎_elim (λ e. inl e) (λ r. inr (to a z r)) i) (λ z i. ⊎_elim (λ e. inl e) (λ r. inr (from a z r)) i)

  pub in_pushed : (xs : List X) (y x : X) → IsAmong x (xs ++ y ∷ []) → IsAmong x (y ∷ xs)
  in_pushed [] y x i = i
  in_pushed (z ∷ xs) y x i = ⊎_elim (λ e. inr (inl e)) (λ r. ⊎_elim (λ e. inl e) (λ q. inr (inr q)) (in_pushed xs y x r)) i

  pub pushed_in : (xs : List X) (y x : X) → IsAmong x (y ∷ xs) → IsAmong x (xs ++ y ∷ [])
  pushed_in [] y x i = i
  pushed_in (z ∷ xs) y x i =
      ⊎_elim (λ e. inr (pushed_in xs y x (inl e))) (λ r. ⊎_elim (λ e. inl e) (λ q. inr (pushed_in xs y x (inr q))) r) i

  pub same_pushed : (xs : List X) (y : X) → HaveSame (xs ++ y ∷ []) (y ∷ xs)
  same_pushed xs y = same_of (xs ++ y ∷ []) (y ∷ xs) (in_pushed xs y) (pushed_in xs y)

  kept_step : (p : X → Bool) (b : Bool) (y x : X) (rest : List X) → p y ≡ b → (IsAmong x rest → p x ≡ true) → IsAmong x (cond b (y ∷ rest) rest) → p x ≡ true
  kept_step p true y x rest e more i = ⊎_elim (λ s. subst (λ (z : X). p z ≡ true) s e) more i
  kept_step p false y x rest e more i = more i

  pub kept_passes : (p : X → Bool) (xs : List X) (x : X) → IsAmong x (filter p xs) → p x ≡ true
  kept_passes p [] x i = absurd i
  kept_passes p (y ∷ xs) x i = kept_step p (p y) y x (filter p xs) refl (kept_passes p xs x) i

  was_step : (b : Bool) (y x : X) (rest xs : List X) → (IsAmong x rest → IsAmong x xs) → IsAmong x (cond b (y ∷ rest) rest) → IsAmong x (y ∷ xs)
  was_step true y x rest xs more i = ⊎_elim (λ e. inl e) (λ r. inr (more r)) i
  was_step false y x rest xs more i = inr (more i)

  pub kept_was : (p : X → Bool) (xs : List X) (x : X) → IsAmong x (filter p xs) → IsAmong x xs
  kept_was p [] x i = i
  kept_was p (y ∷ xs) x i = was_step (p y) y x (filter p xs) xs (kept_was p xs x) i

  keeps_step : (p : X → Bool) (b : Bool) (y x : X) (rest xs : List X) → p y ≡ b → p x ≡ true → (IsAmong x xs → IsAmong x rest) → IsAmong x (y ∷ xs) → IsAmong x (cond b (y ∷ rest) rest)
  keeps_step p true y x rest xs e passes more i = ⊎_elim (λ s. inl s) (λ r. inr (more r)) i
  keeps_step p false y x rest xs e passes more i = ⊎_elim (λ s. absurd (no s)) more i
    where
      no : y ≡ x → ⊥
      no s = let f : p x ≡ false = subst (λ (z : X). p z ≡ false) s e in cc

  pub passes_kept : (p : X → Bool) (xs : List X) (x : X) → p x ≡ true → IsAmong x xs → IsAmong x (filter p xs)
  passes_kept p [] x passes i = i
  passes_kept p (y ∷ xs) x passes i = keeps_step p (p y) y x (filter p xs) xs refl passes (passes_kept p xs x passes) i

  pub same_kept : (p : X → Bool) (xs ys : List X) → HaveSame xs ys → HaveSame (filter p xs) (filter p ys)
  same_kept p xs ys a =
      same_of (filter p xs) (filter p ys)
      (λ x i. passes_kept p ys x (kept_passes p xs x i) (to a x (kept_was p xs x i)))
      (λ x i. passes_kept p xs x (kept_passes p ys x i) (from a x (kept_was p ys x i)))

  filters_step : (a b : Bool) (x : X) (xs ys : List X) → a ≡ b → xs ≡ ys → cond a (x ∷ xs) xs ≡ cond b (x ∷ ys) ys
  filters_step true true x xs ys e same = ap (λ (l : List X). x ∷ l) same
  filters_step false false x xs ys e same = same
  filters_step true false x xs ys e same = cc
  filters_step false true x xs ys e same = cc

  -- two tests that agree on a list keep the same of it
  pub same_filter : (p q : X → Bool) (xs : List X) → AllByRecursion (λ x. p x ≡ q x) xs → filter p xs ≡ filter q xs
  same_filter p q [] all = refl
  same_filter p q (x ∷ xs) all = filters_step (p x) (q x) x (filter p xs) (filter q xs) all.0 (same_filter p q xs all.1)

  pub all_under : (P Q : X → Type 0) (xs : List X) → ((x : X) → P x → Q x) → AllByRecursion P xs → AllByRecursion Q xs
  all_under P Q [] under all = tt
  all_under P Q (x ∷ xs) under all = (under x all.0, all_under P Q xs under all.1)

  all_step : (P : X → Type 0) (b : Bool) (y : X) (rest : List X) → P y → AllByRecursion P rest → AllByRecursion P (cond b (y ∷ rest) rest)
  all_step P true y rest one all = (one, all)
  all_step P false y rest one all = all

  pub all_kept : (P : X → Type 0) (p : X → Bool) (xs : List X) → AllByRecursion P xs → AllByRecursion P (filter p xs)
  all_kept P p [] all = tt
  all_kept P p (y ∷ xs) all = all_step P (p y) y (filter p xs) all.0 (all_kept P p xs all.1)

  pub all_pushed : (P : X → Type 0) (xs : List X) (y : X) → AllByRecursion P xs → P y → AllByRecursion P (xs ++ y ∷ [])
  all_pushed P [] y all one = (one, tt)
  all_pushed P (z ∷ xs) y all one = (all.0, all_pushed P xs y all.1 one)

module _ {X Y : Type 0} (f : X → Y) where
  pub in_map : (xs : List X) (x : X) → IsAmong x xs → IsAmong (f x) (map f xs)
  in_map [] x i = i
  in_map (y ∷ xs) x i = ⊎_elim (λ e. inl (ap f e)) (λ r. inr (in_map xs x r)) i

  -- an element of which another is made
  pub record Made (xs : List X) (y : Y) : Type 0 where
    pub from : X
    pub among : IsAmong from xs
    pub is : f from ≡ y

  pub made_of : (xs : List X) (y : Y) → IsAmong y (map f xs) → Made xs y
  made_of [] y i = absurd i
  made_of (x ∷ xs) y i =
      ⊎_elim (λ e. record { from = x; among = inl refl; is = e }) (λ r. let m = made_of xs y r in record { from = m.from; among = inr m.among; is = m.is }) i

  pub map_pushed : (xs : List X) (x : X) → map f (xs ++ x ∷ []) ≡ map f xs ++ f x ∷ []
  map_pushed [] x = refl
  map_pushed (y ∷ xs) x = ap (λ (l : List Y). f y ∷ l) (map_pushed xs x)

  same_map_one : (xs ys : List X) → HaveSame xs ys → (y : Y) → IsAmong y (map f xs) → IsAmong y (map f ys)
  same_map_one xs ys same y i = let m = made_of xs y i in subst (λ (z : Y). IsAmong z (map f ys)) m.is (in_map ys m.from (to same m.from m.among))

  pub same_map : (xs ys : List X) → HaveSame xs ys → HaveSame (map f xs) (map f ys)
  same_map xs ys same =
      same_of (map f xs) (map f ys) (same_map_one xs ys same) (same_map_one ys xs (same_of ys xs (from same) (to same)))

  filter_step : (b : Bool) (x : X) (rest : List X) (l : List Y) → l ≡ map f rest → cond b (f x ∷ l) l ≡ map f (cond b (x ∷ rest) rest)
  filter_step true x rest l e = ap (λ (k : List Y). f x ∷ k) e
  filter_step false x rest l e = e

  -- what passes of a list that was made passes as it was made
  pub filter_map_is : (p : Y → Bool) (xs : List X) → filter p (map f xs) ≡ map f (filter (λ x. p (f x)) xs)
  filter_map_is p [] = refl
  filter_map_is p (x ∷ xs) = filter_step (p (f x)) x (filter (λ z. p (f z)) xs) (filter p (map f xs)) (filter_map_is p xs)

-- Rows by rising numbers.

pub first_least : (rows : List RowRef) (row other : RowRef) → IsRising (row ∷ rows) → IsAmong other rows → row.number < other.number
first_least rows row other rising i = of_all (λ (o : RowRef). row.number < o.number) rows other rising.0 i

-- two rising lists with the same rows are the same
pub same_rising : (xs ys : List RowRef) → IsRising xs → IsRising ys → HaveSame xs ys → xs ≡ ys
same_rising [] [] r s same = refl
same_rising [] (y ∷ ys) r s same = absurd (same.back.0)
same_rising (x ∷ xs) [] r s same = absurd (same.there.0)
same_rising (x ∷ xs) (y ∷ ys) r s same =
    let e = first (same.there.0) (same.back.0) in
    let rest = same_of xs ys
    (λ z i. ⊎_elim (λ h. absurd (later xs x z r i (e ∙ h))) (λ q. q) (to same z (inr i)))
    (λ z i. ⊎_elim (λ h. absurd (later ys y z s i (sym e ∙ h))) (λ q. q) (from same z (inr i))) in
    ap (λ (z : RowRef). z ∷ xs) e ∙ ap (λ (l : List RowRef). y ∷ l) (same_rising xs ys r.1 s.1 rest)
  where
    first : IsAmong x (y ∷ ys) → IsAmong y (x ∷ xs) → x ≡ y
    first i j = ⊎_elim (λ h. sym h) (λ q. ⊎_elim (λ h. h) (λ k. absurd (let a = first_least ys y x s q in let b = first_least xs x y r k in omega (arith, a, b))) j) i

    later : (l : List RowRef) (a b : RowRef) → IsRising (a ∷ l) → IsAmong b l → a ≡ b → ⊥
    later l a b rising i e = let lt = first_least l a b rising i in let n : a.number ≡ b.number = ap (λ (o : RowRef). o.number) e in omega (arith, lt, n)

below_step : (b : Bool) (row : RowRef) (n : ℕ) (rest : List RowRef) → row.number < n → AreBelow rest n → AreBelow (cond b (row ∷ rest) rest) n
below_step true row n rest one all = (one, all)
below_step false row n rest one all = all

kept_rising_step : (b : Bool) (row : RowRef) (rest : List RowRef) → AllByRecursion (λ other. row.number < other.number) rest → IsRising rest → IsRising (cond b (row ∷ rest) rest)
kept_rising_step true row rest all rising = (all, rising)
kept_rising_step false row rest all rising = rising

pub kept_rising : (p : RowRef → Bool) (rows : List RowRef) → IsRising rows → IsRising (filter p rows)
kept_rising p [] rising = tt
kept_rising p (row ∷ rows) rising =
    kept_rising_step (p row) row (filter p rows) (all_kept (λ (o : RowRef). row.number < o.number) p rows rising.0) (kept_rising p rows rising.1)
