-- How often pages stand in lists.
use Rattle.std.proofs.Common.{◌≡◌, ◌≢◌, ⊎_elim, ℕ, ◌+◌, ◌-◌, ◌<◌, ◌≤◌, zero, suc, List, [], ◌∷◌, ◌++◌, refl, sym, ◌∙◌, ap, subst, arith}
use Rattle.std.specs.List.{AllByRecursion, range_with_len}
use Rattle.std.specs.List.Sorted.{IsPermutation}
use Rattle.std.proofs.lemmas.Bool.Decides.{eqb_tells}
use Rattle.std.proofs.lemmas.List.Sorted.{IsPermutation-refl, IsPermutation-trans, IsPermutation-cons, IsPermutation-middle, IsPermutation-sym}
use Rattle.gx_pages.proofs.Footprints.{hit, times, hit_none, times-append, times_one}
use Rattle.gx_database.specs.Heaps.{Stored}
use Rattle.gx_database.specs.Parts.{feet_of}

-- a number that stands in a list
record Stands (x : ℕ) (ys : List ℕ) : Type 0 where
  front : List ℕ
  back : List ℕ
  parts : ys ≡ front ++ x ∷ back

more_front : (x y : ℕ) (ys : List ℕ) → Stands x ys → Stands x (y ∷ ys)
more_front x y ys s = record { front = y ∷ s.front; back = s.back; parts = ap (λ (zs : List ℕ). y ∷ zs) s.parts }

stands : (x : ℕ) (ys : List ℕ) → 1 ≤ times x ys → Stands x ys
stands x [] h = absurd (omega arith)
stands x (y ∷ ys) h =
    ⊎_elim
    (λ same. let e : y ∷ ys ≡ x ∷ ys = ap (λ (n : ℕ). n ∷ ys) (sym same.1) in let s : Stands x (y ∷ ys) = record { front = []; back = ys; parts = e } in s)
    (λ other. let none : hit x y ≡ 0 = hit_none x y other.1 in let rest : 1 ≤ times x ys = omega arith in more_front x y ys (stands x ys rest))
    (eqb_tells x y)

rest_times : (x : ℕ) (xs ys front back : List ℕ) → ys ≡ front ++ x ∷ back → ((n : ℕ) → times n (x ∷ xs) ≡ times n ys) → (n : ℕ) → times n xs ≡ times n (front ++ back)
rest_times x xs ys front back p h n =
    let e = h n in
    let q : times n ys ≡ times n (front ++ x ∷ back) = ap (λ (zs : List ℕ). times n zs) p in
    let a = times-append n front (x ∷ back) in
    let b = times-append n front back in omega arith

moved_front : (x : ℕ) (xs ys front back : List ℕ) → ys ≡ front ++ x ∷ back → IsPermutation xs (front ++ back) → IsPermutation (x ∷ xs) ys
moved_front x xs ys front back p h =
    let there : IsPermutation (x ∷ xs) (x ∷ (front ++ back)) = IsPermutation-cons x xs (front ++ back) h in
    let behind : IsPermutation (x ∷ (front ++ back)) (front ++ x ∷ back) = IsPermutation-sym (front ++ x ∷ back) (x ∷ (front ++ back)) (IsPermutation-middle front x back) in
    subst (λ (zs : List ℕ). IsPermutation (x ∷ xs) zs) (sym p) (IsPermutation-trans (x ∷ xs) (x ∷ (front ++ back)) (front ++ x ∷ back) there behind)

-- lists in which each number stands as often are one another's rearrangement
pub same_times : (xs ys : List ℕ) → ((n : ℕ) → times n xs ≡ times n ys) → IsPermutation xs ys
same_times [] [] h = IsPermutation-refl []
same_times [] (y ∷ ys) h = absurd (let e = h y in let one = times_one y ys in omega arith)
same_times (x ∷ xs) ys h =
    let some : 1 ≤ times x ys = (let e = h x in let one = times_one x xs in omega arith) in
    let s = stands x ys some in
    moved_front x xs ys s.front s.back s.parts (same_times xs (s.front ++ s.back) (rest_times x xs ys s.front s.back s.parts h))

-- what is so of each number that stands in a list
pub all_times : (Q : ℕ → Type 0) (xs : List ℕ) → ((n : ℕ) → 1 ≤ times n xs → Q n) → AllByRecursion Q xs
all_times Q [] h = tt
all_times Q (x ∷ xs) h = (h x (let one = times_one x xs in omega arith), all_times Q xs (λ n k. h n (omega arith)))

-- a number that isn't hit differs
pub none_hit : (n x : ℕ) → hit n x ≡ 0 → n ≢ x
none_hit n x none same =
    let here : hit n n ≡ 0 = (let P : ℕ → Type 0 = λ m. hit n m ≡ 0 in subst P (sym same) none) in
    let one = times_one n [] in omega arith

-- A range has each of its numbers once, and no other.
pub range_hits : (a len n : ℕ) → 1 ≤ times n (range_with_len a len) → (a ≤ n) × (n < a + len)
range_hits a zero n h = absurd (omega arith)
range_hits a (suc len) n h =
    ⊎_elim
    (λ same. let e : n ≡ a = same.1 in (omega arith, omega arith))
    (λ other. let none : hit n a ≡ 0 = hit_none n a other.1 in let k = range_hits (a + 1) len n (omega arith) in let l = k.0 in let m = k.1 in (omega arith, omega arith))
    (eqb_tells n a)

not_before : (a len n : ℕ) → n < a → times n (range_with_len a len) ≡ 0
not_before a zero n h = refl
not_before a (suc len) n h = let none : hit n a ≡ 0 = hit_none n a (λ same. omega arith) in let rest = not_before (a + 1) len n (omega arith) in omega arith

pub range_once : (a len n : ℕ) → times n (range_with_len a len) ≤ 1
range_once a zero n = omega arith
range_once a (suc len) n =
    ⊎_elim
    (λ same. let e : n ≡ a = same.1 in let rest = not_before (a + 1) len n (omega arith) in let here : hit n a ≤ 1 = (rw (same.0) (omega arith)) in omega arith)
    (λ other. let none : hit n a ≡ 0 = hit_none n a other.1 in let rest = range_once (a + 1) len n in omega arith)
    (eqb_tells n a)

pub range_join : (a len more : ℕ) → range_with_len a len ++ range_with_len (a + len) more ≡ range_with_len a (len + more)
range_join a zero more = let e : a + 0 ≡ a = omega arith in let f : 0 + more ≡ more = omega arith in rw (e, f) refl
range_join a (suc len) more =
    let e : a + suc len ≡ (a + 1) + len = omega arith in
    let f : suc len + more ≡ suc (len + more) = omega arith in
    rw (e, f) (ap (λ (xs : List ℕ). a ∷ xs) (range_join (a + 1) len more))

-- the pages of heaps, some behind others
pub times_feet : (n : ℕ) (xs ys : List Stored) → times n (feet_of (xs ++ ys)) ≡ times n (feet_of xs) + times n (feet_of ys)
times_feet n [] ys = omega arith
times_feet n (x ∷ xs) ys =
    let rest = times_feet n xs ys in
    let a = times-append n x.feet (feet_of (xs ++ ys)) in
    let b = times-append n x.feet (feet_of xs) in omega arith
