-- Rising lists, and strings put in rising order.
use Rattle.std.proofs.Common.{refl, sym, ap, subst, ◌∙◌, ◌≡◌, ◌≢◌, ◌⊎◌, ◌↔◌, inl, inr, ℕ, zero, suc, ◌+◌, ◌<◌, List, [], ◌∷◌, length, Contains, get_or, arith}
use Rattle.std.specs.Ordering.{nat_cmp, ordering_reverse}
use Rattle.std.specs.Cmp.Lexicographic.{slice_cmp}
use Rattle.std.specs.declared.cmp.Ordering.{Ordering}
use Rattle.std.specs.declared.cmp.Ordering.TheVariants.{Less, Equal, Greater}
use Rattle.std.proofs.lemmas.Cmp.{nat_list_cmp_total, tied_itself}
use Rattle.std.proofs.lemmas.Map.Lookups.{exact_bytes}
use Rattle.gx_gin.specs.Rising.{IsBefore, IsRising, placed, put_in, rising_of}

abbrev R : List ℕ → List ℕ → Ordering
R = slice_cmp nat_cmp

-- elements of a list, by recursion
abbrev In : List ℕ → List (List ℕ) → Type 0
In z [] = ⊥
In z (x ∷ xs) = (x ≡ z) ⊎ In z xs

in_of : (z : List ℕ) (xs : List (List ℕ)) → Contains xs z → In z xs
in_of z [] (k, below, is) = absurd (omega (arith, below))
in_of z (x ∷ xs) (zero, below, is) = inl is
in_of z (x ∷ xs) (suc k, below, is) = inr (in_of z xs (k, omega (arith, below), is))

of_in : (z : List ℕ) (xs : List (List ℕ)) → In z xs → Contains xs z
of_in z [] h = absurd h
of_in z (x ∷ xs) (inl e) = (zero, omega arith, e)
of_in z (x ∷ xs) (inr h) = let c = of_in z xs h in (suc c.0, omega (arith, c.1), c.2)

less_not : (x : List ℕ) → R x x ≡ Less → ⊥
less_not x e = let both : Equal ≡ Less = sym (tied_itself nat_list_cmp_total x) ∙ e in cc both

-- a rising list's later elements are behind its first
behind : (x : List ℕ) (xs : List (List ℕ)) → IsRising (x ∷ xs) → (z : List ℕ) → In z xs → R x z ≡ Less
behind x [] rise z h = absurd h
behind x (y ∷ ys) rise z (inl e) = subst (λ (w : List ℕ). R x w ≡ Less) e rise.0
behind x (y ∷ ys) rise z (inr h) = nat_list_cmp_total.trans x y z rise.0 (behind y ys rise.1 z h)

tail_rises : (x : List ℕ) (xs : List (List ℕ)) → IsRising (x ∷ xs) → IsRising xs
tail_rises x [] rise = tt
tail_rises x (y ∷ ys) rise = rise.1

turned : (x y : List ℕ) → R x y ≡ Less → R y x ≡ Less → ⊥
turned x y a b = less_not x (nat_list_cmp_total.trans x y x a b)

-- the first of two rising lists with the same elements
same_head : (a b : List ℕ) (as' bs : List (List ℕ)) → IsRising (a ∷ as') → IsRising (b ∷ bs) → In a (b ∷ bs) → In b (a ∷ as') → a ≡ b
same_head a b as' bs ra rb (inl e) hb = sym e
same_head a b as' bs ra rb (inr ha) (inl e) = e
same_head a b as' bs ra rb (inr ha) (inr hb) = absurd (turned a b (behind a as' ra b hb) (behind b bs rb a ha))

drop_head : (a z : List ℕ) (as' bs : List (List ℕ)) → IsRising (a ∷ as') → In z as' → In z (a ∷ bs) → In z bs
drop_head a z as' bs ra has (inl e) = absurd (less_not a (subst (λ (w : List ℕ). R a w ≡ Less) (sym e) (behind a as' ra z has)))
drop_head a z as' bs ra has (inr h) = h

same_list : (xs ys : List (List ℕ)) → IsRising xs → IsRising ys → ((z : List ℕ) → In z xs → In z ys) → ((z : List ℕ) → In z ys → In z xs) → xs ≡ ys
same_list [] [] rx ry f g = refl
same_list [] (y ∷ ys) rx ry f g = absurd (g y (inl refl))
same_list (x ∷ xs) [] rx ry f g = absurd (f x (inl refl))
same_list (x ∷ xs) (y ∷ ys) rx ry f g =
    let head = same_head x y xs ys rx ry (f x (inl refl)) (g y (inl refl)) in
    let rest = same_list xs ys (tail_rises x xs rx) (tail_rises y ys ry)
    (λ z h. drop_head x z xs ys rx h (subst (λ (w : List ℕ). In z (w ∷ ys)) (sym head) (f z (inr h))))
    (λ z h. drop_head y z ys xs ry h (subst (λ (w : List ℕ). In z (w ∷ xs)) head (g z (inr h)))) in
    subst (λ (w : List ℕ). x ∷ xs ≡ w ∷ ys) head (ap (λ (l : List (List ℕ)). x ∷ l) rest)

pub one_list : (xs ys : List (List ℕ)) → IsRising xs → IsRising ys → ((z : List ℕ) → Contains xs z ↔ Contains ys z) → xs ≡ ys
one_list xs ys rx ry same = same_list xs ys rx ry (λ z h. in_of z ys ((same z).0 (of_in z xs h))) (λ z h. in_of z xs ((same z).1 (of_in z ys h)))

-- what is put in place
put_has_at : (x y : List ℕ) (ys later : List (List ℕ)) (z : List ℕ) (o : Ordering) → R x y ≡ o → In z later ↔ ((x ≡ z) ⊎ In z ys) → In z (placed o x y ys later) ↔ ((x ≡ z) ⊎ ((y ≡ z) ⊎ In z ys))
put_has_at x y ys later z Less e rest = (λ h. h, λ h. h)
put_has_at x y ys later z Equal e rest = (λ h. inr h, elim [ inl is ↦ inl (sym (exact_bytes x y e) ∙ is) | inr h ↦ h ])
put_has_at x y ys later z Greater e rest = (
  elim [ inl is ↦ inr (inl is) | inr h ↦ elim (rest.0 h) [ inl is ↦ inl is | inr old ↦ inr (inr old) ] ],
  elim [ inl is ↦ inr (rest.1 (inl is)) | inr h ↦ elim h [ inl is ↦ inl is | inr old ↦ inr (rest.1 (inr old)) ] ],
)

put_has : (x : List ℕ) (xs : List (List ℕ)) (z : List ℕ) → In z (put_in x xs) ↔ ((x ≡ z) ⊎ In z xs)
put_has x [] z = (λ h. h, λ h. h)
put_has x (y ∷ ys) z = put_has_at x y ys (put_in x ys) z (R x y) refl (put_has x ys z)

more_behind : (y : List ℕ) (xs : List (List ℕ)) → IsRising xs → ((z : List ℕ) → In z xs → R y z ≡ Less) → IsRising (y ∷ xs)
more_behind y [] rise all = tt
more_behind y (x ∷ xs) rise all = (all x (inl refl), rise)

greater_back : (x y : List ℕ) → R x y ≡ Greater → R y x ≡ Less
greater_back x y e = nat_list_cmp_total.antisymm y x ∙ ap ordering_reverse e

put_rises_at : (x y : List ℕ) (ys : List (List ℕ)) (o : Ordering) → R x y ≡ o → IsRising (y ∷ ys) → IsRising (put_in x ys) → IsRising (placed o x y ys (put_in x ys))
put_rises_at x y ys Less e rise later = (e, rise)
put_rises_at x y ys Equal e rise later = rise
put_rises_at x y ys Greater e rise later = more_behind y (put_in x ys) later
    (λ z h. elim ((put_has x ys z).0 h) [ inl is ↦ subst (λ (w : List ℕ). R y w ≡ Less) is (greater_back x y e) | inr old ↦ behind y ys rise z old ])

put_rises : (x : List ℕ) (xs : List (List ℕ)) → IsRising xs → IsRising (put_in x xs)
put_rises x [] rise = tt
put_rises x (y ∷ ys) rise = put_rises_at x y ys (R x y) refl rise (put_rises x ys (tail_rises y ys rise))

pub rises : (xs : List (List ℕ)) → IsRising (rising_of xs)
rises [] = tt
rises (x ∷ xs) = put_rises x (rising_of xs) (rises xs)

in_same : (xs : List (List ℕ)) (z : List ℕ) → In z (rising_of xs) ↔ In z xs
in_same [] z = (λ h. h, λ h. h)
in_same (x ∷ xs) z =
    let put = put_has x (rising_of xs) z in
    let rest = in_same xs z in
    (λ h. elim (put.0 h) [ inl is ↦ inl is | inr old ↦ inr (rest.0 old) ], elim [ inl is ↦ put.1 (inl is) | inr old ↦ put.1 (inr (rest.1 old)) ])

pub same_strings : (xs : List (List ℕ)) (z : List ℕ) → Contains (rising_of xs) z ↔ Contains xs z
same_strings xs z = (λ h. of_in z xs ((in_same xs z).0 (in_of z (rising_of xs) h)), λ h. of_in z (rising_of xs) ((in_same xs z).1 (in_of z xs h)))
