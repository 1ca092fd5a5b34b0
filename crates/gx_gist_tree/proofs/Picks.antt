-- Elements at places.
use Rattle.std.proofs.Common.{◌≡◌, ℕ, zero, suc, ◌+◌, ◌<◌, List, [], ◌∷◌, ◌++◌, length, map, get_or, sum, Option, Some, None, All, refl, sym, ◌∙◌, ap, subst, length-append, arith}
use Rattle.std.specs.List.{range_with_len, slice_get, cons_option}
use Rattle.std.specs.Option.{option_map}
use Rattle.std.specs.List.Sorted.{IsPermutation}
use Rattle.std.proofs.lemmas.Option.{slice_get-map, slice_get-get_or}
use Rattle.std.proofs.lemmas.List.Sums.{sum-map, sum_by-cons}
use Rattle.std.proofs.lemmas.List.FromFn.{length-range_with_len, get_or-range_with_len, fill_by_all}
use Rattle.std.proofs.lemmas.List.Elements.{All-head, All-tail, filter_map-append}
use Rattle.std.proofs.lemmas.List.Sorted.{IsPermutation-refl, IsPermutation-map, All-permutation, length_permutation}
use Rattle.gx_slot.specs.Slots.{taken, packed}
use Rattle.gx_gist.specs.Places.{IsRearrangement}
use Rattle.gx_gist.specs.Split.{size_of}
use Rattle.gx_gist_tree.specs.Insertion.{picked}

option_first : {X Y : Type 0} (f : X → Y) (o : Option X) (xs : List X) → cons_option (option_map f o) (map f xs) ≡ map f (cons_option o xs)
option_first f None xs = refl
option_first f (Some x) xs = refl

pub picked_map : {X Y : Type 0} (f : X → Y) (xs : List X) (places : List ℕ) → picked (map f xs) places ≡ map f (picked xs places)
picked_map f xs [] = refl
picked_map {X} {Y} f xs (p ∷ ps) =
    ap (λ (o : Option Y). cons_option o (picked (map f xs) ps)) (slice_get-map f xs p)
    ∙ ap (λ (l : List Y). cons_option (option_map f (slice_get xs p)) l) (picked_map f xs ps)
    ∙ option_first f (slice_get xs p) (picked xs ps)

pub picked_append : {X : Type 0} (xs : List X) (ps qs : List ℕ) → picked xs (ps ++ qs) ≡ picked xs ps ++ picked xs qs
picked_append xs ps qs = filter_map-append (λ (p : ℕ). slice_get xs p) ps qs

pub picked_gets : {X : Type 0} (xs : List X) (d : X) (places : List ℕ) → All (λ p. p < length xs) places → picked xs places ≡ map (λ p. get_or xs p d) places
picked_gets xs d [] all = refl
picked_gets {X} xs d (p ∷ ps) all =
    let here = All-head (λ (n : ℕ). n < length xs) p ps all in
    ap (λ (o : Option X). cons_option o (picked xs ps)) (slice_get-get_or xs p d here)
    ∙ ap (λ (l : List X). get_or xs p d ∷ l) (picked_gets xs d ps (All-tail (λ (n : ℕ). n < length xs) p ps all))

pub picked_length : {X : Type 0} (xs : List X) (places : List ℕ) → All (λ p. p < length xs) places → length (picked xs places) ≡ length places
picked_length xs [] all = refl
picked_length {X} [] (p ∷ ps) all = absurd (let here = All-head (λ (n : ℕ). n < 0) p ps all in omega (arith, here))
picked_length {X} (x ∷ xs) (p ∷ ps) all =
    let here = All-head (λ (n : ℕ). n < length (x ∷ xs)) p ps all in
    let rest = picked_length (x ∷ xs) ps (All-tail (λ (n : ℕ). n < length (x ∷ xs)) p ps all) in
    ap (λ (o : Option X). length (cons_option o (picked (x ∷ xs) ps))) (slice_get-get_or (x ∷ xs) p x here) ∙ ap (λ (n : ℕ). suc n) rest

-- each place is one of the list
pub all_below : (n : ℕ) (places : List ℕ) → IsRearrangement places n → All (λ p. p < n) places
all_below n places moved = All-permutation (λ p. p < n) (range_with_len 0 n) places moved
    (λ k d h. let small : k < n = omega (arith, length-range_with_len 0 n) in rw (get_or-range_with_len 0 n k d small) (omega arith))

nothing : (places : List ℕ) → IsRearrangement places 0 → places ≡ []
nothing [] moved = refl
nothing (p ∷ ps) moved = absurd (let long = length_permutation [] (p ∷ ps) moved in omega (arith, long))

-- the elements at all places, in their order
pub picked_moved : {X : Type 0} (xs : List X) (places : List ℕ) → IsRearrangement places (length xs) → IsPermutation xs (picked xs places)
picked_moved {X} [] places moved = subst (λ (l : List ℕ). IsPermutation {X = X} [] (picked [] l)) (sym (nothing places moved)) (IsPermutation-refl [])
picked_moved {X} (x ∷ xs) places moved =
    let l = x ∷ xs in
    let n = length (x ∷ xs) in
    let f : ℕ → X = λ p. get_or (x ∷ xs) p x in
    let same : x ∷ xs ≡ map f (range_with_len 0 n) = fill_by_all f (x ∷ xs) n x refl (λ k below. refl) in
    let moves : IsPermutation (map f (range_with_len 0 n)) (map f places) = IsPermutation-map f (range_with_len 0 n) places moved in
    subst (λ (m : List X). IsPermutation (x ∷ xs) m) (sym (picked_gets (x ∷ xs) x places (all_below n places moved)))
    (subst (λ (m : List X). IsPermutation m (map f places)) (sym same) moves)

-- what items take on a page
abbrev pub somes : List (List ℕ) → List (Option (List ℕ))
somes items = map (λ item. Some item) items

pub taken_cons : (item : List ℕ) (items : List (List ℕ)) → taken (somes (item ∷ items)) ≡ 4 + length item + taken (somes items)
taken_cons item items = let l = length-append (packed (somes items)) item in omega (arith, l)

pub taken_append : (xs ys : List (Option (List ℕ))) → taken (xs ++ ys) ≡ taken xs + taken ys
taken_append [] ys = omega arith
taken_append (None ∷ xs) ys = let rest = taken_append xs ys in omega (arith, rest)
taken_append (Some x ∷ xs) ys =
    let rest = taken_append xs ys in
    let l = length-append (packed (xs ++ ys)) x in
    let m = length-append (packed xs) x in
    omega (arith, rest, l, m)

pub size_at : (items : List (List ℕ)) (p : ℕ) → p < length items → get_or (map (λ item. 4 + length item) items) p 0 ≡ 4 + length (get_or items p [])
size_at [] p below = absurd (omega (arith, below))
size_at (x ∷ xs) zero below = refl
size_at (x ∷ xs) (suc p) below = size_at xs p (omega (arith, below))

-- the sizes of the items at places
pub size_picked : (items : List (List ℕ)) (places : List ℕ) → All (λ p. p < length items) places → taken (somes (picked items places)) ≡ size_of (map (λ item. 4 + length item) items) places
size_picked items [] all = refl
size_picked items (p ∷ ps) all =
    let here = All-head (λ (n : ℕ). n < length items) p ps all in
    let rest = size_picked items ps (All-tail (λ (n : ℕ). n < length items) p ps all) in
    let first = ap (λ (o : Option (List ℕ)). taken (somes (cons_option o (picked items ps)))) (slice_get-get_or items p [] here) in
    let more = taken_cons (get_or items p []) (picked items ps) in
    let is = size_at items p here in
    let sums : size_of (map (λ (item : List ℕ). 4 + length item) items) (p ∷ ps) ≡ get_or (map (λ (item : List ℕ). 4 + length item) items) p 0 + size_of (map (λ (item : List ℕ). 4 + length item) items) ps =
    sum_by-cons (λ (place : ℕ). get_or (map (λ (item : List ℕ). 4 + length item) items) place 0) p ps in
    omega (arith, rest, first, more, is, sums)

pub taken_sum : (items : List (List ℕ)) → taken (somes items) ≡ sum (map (λ item. 4 + length item) items)
taken_sum [] = refl
taken_sum (x ∷ xs) =
    let f : List ℕ → ℕ = λ item. 4 + length item in
    let sums : sum (map (λ (item : List ℕ). 4 + length item) (x ∷ xs)) ≡ (4 + length x) + sum (map (λ (item : List ℕ). 4 + length item) xs) =
    sum-map f (x ∷ xs) ∙ sum_by-cons f x xs ∙ ap (λ (n : ℕ). (4 + length x) + n) (sym (sum-map f xs)) in
    taken_cons x xs ∙ ap (λ (n : ℕ). (4 + length x) + n) (taken_sum xs) ∙ sym sums
