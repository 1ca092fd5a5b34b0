-- Pages that lie apart, what a change of other pages leaves, and the causes of a call that hands an error on.
use Rattle.std.proofs.Common.{◌≡◌, ◌≢◌, inl, inr, ⊎_elim, ℕ, ◌+◌, ◌-◌, ◌^◌, ◌<◌, ◌≤◌, zero, suc, true, false, cond, eqb, List, [], ◌∷◌, ◌++◌, length, Some, refl, sym, ◌∙◌, ap, subst, append_assoc, append-nil, arith}
use Rattle.std.specs.List.{AllByRecursion, range_with_len, sum_by}
use Rattle.std.specs.List.Sorted.{IsPermutation}
use Rattle.std.proofs.lemmas.Bool.{cases_lt}
use Rattle.std.proofs.lemmas.Bool.Decides.{eqb_tells}
use Rattle.std.proofs.lemmas.List.Sums.{sum_by-append}
use Rattle.std.proofs.lemmas.List.Sorted.{IsPermutation-refl, IsPermutation-trans, IsPermutation-append_left, sum_by-IsPermutation}
use Rattle.gx_bytes.specs.Fields.{le64-same}
use Rattle.gx_words.specs.PageMap.{PageMap, with_page}
use Rattle.gx_words.specs.Causes.{Said}
use Rattle.gx_pages.specs.declared.error.PageError.{PageError}
use Rattle.gx_pages.specs.declared.error.PageError.TheVariants.{DiskFault, Broken, PageSpace, Memory}
use Rattle.gx_pages.specs.declared.store.Pages.{Ghosts}
use Rattle.gx_pages.specs.Frees.{HasFirst, IsApart, IsFreeChain, IsFreeList, StartsBroken, KeepsHeader, Taken, Given, free_page_of}
use Rattle.gx_pages.specs.Pages.{HasCause}
use Rattle.gx_pages.specs.Footprints.{IsOutside, ChangesOnly, KeepsPages, StaysQuiet, grown}

-- an error that is handed on has a weaker cause
pub cause_weaker : (e : PageError) (a b c d : ℕ) (B B' : ℕ → ℕ → ℕ → Type 0) (S S' : ℕ → Type 0) (M M' : Type 0) → a ≤ b → c ≤ d
    → ((p x y : ℕ) → B p x y → B' p x y) → ((n : ℕ) → S n → S' n) → (M → M') → HasCause b c B S M e → HasCause a d B' S' M' e
cause_weaker DiskFault a b c d B B' S S' M M' le more broken space memory rose = omega arith
cause_weaker (Broken page expected found) a b c d B B' S S' M M' le more broken space memory has = (has.0, broken page expected found has.1)
cause_weaker (PageSpace pages) a b c d B B' S S' M M' le more broken space memory has = space pages has
cause_weaker Memory a b c d B B' S S' M M' le more broken space memory has = memory has

-- of each number in a list
pub all_left : {X : Type 0} (Q : X → Type 0) (xs ys : List X) → AllByRecursion Q (xs ++ ys) → AllByRecursion Q xs
all_left Q [] ys all = tt
all_left Q (x ∷ xs) ys all = (all.0, all_left Q xs ys all.1)

pub all_right : {X : Type 0} (Q : X → Type 0) (xs ys : List X) → AllByRecursion Q (xs ++ ys) → AllByRecursion Q ys
all_right Q [] ys all = all
all_right Q (x ∷ xs) ys all = all_right Q xs ys all.1

pub all_join : {X : Type 0} (Q : X → Type 0) (xs ys : List X) → AllByRecursion Q xs → AllByRecursion Q ys → AllByRecursion Q (xs ++ ys)
all_join Q [] ys all more = more
all_join Q (x ∷ xs) ys all more = (all.0, all_join Q xs ys all.1 more)

pub all_weaker : {X : Type 0} (Q R : X → Type 0) (xs : List X) → ((x : X) → Q x → R x) → AllByRecursion Q xs → AllByRecursion R xs
all_weaker Q R [] weaker all = tt
all_weaker Q R (x ∷ xs) weaker all = (weaker x all.0, all_weaker Q R xs weaker all.1)

-- how often a number stands in a list
abbrev pub hit : ℕ → ℕ → ℕ
hit n x = cond (eqb n x) 1 0

abbrev pub times : ℕ → List ℕ → ℕ
times n [] = 0
times n (x ∷ xs) = hit n x + times n xs

times_sum : (n : ℕ) (xs : List ℕ) → sum_by (hit n) xs ≡ times n xs
times_sum n [] = refl
times_sum n (x ∷ xs) =
    let rest = times_sum n xs in
    let cut : sum_by (hit n) (x ∷ xs) ≡ sum_by (hit n) (x ∷ []) + sum_by (hit n) xs = sum_by-append (hit n) (x ∷ []) xs in
    omega (arith, cut, rest)

pub hit_none : (n x : ℕ) → n ≢ x → hit n x ≡ 0
hit_none n x differ = ⊎_elim (λ same. absurd (differ same.1)) (λ other. rw (other.0) refl) (eqb_tells n x)

hit_one : (n : ℕ) → hit n n ≡ 1
hit_one n = ⊎_elim (λ same. rw (same.0) refl) (λ other. absurd (other.1 refl)) (eqb_tells n n)

none_hit : (n x : ℕ) → hit n x ≡ 0 → n ≢ x
none_hit n x none same = let one : hit n x ≡ 1 = ap (λ (y : ℕ). hit n y) (sym same) ∙ hit_one n in omega arith

pub times-append : (n : ℕ) (xs ys : List ℕ) → times n (xs ++ ys) ≡ times n xs + times n ys
times-append n [] ys = omega arith
times-append n (x ∷ xs) ys = let rest = times-append n xs ys in omega (arith, rest)

pub times-permutation : (n : ℕ) (xs ys : List ℕ) → IsPermutation xs ys → times n ys ≡ times n xs
times-permutation n xs ys moved = sym (times_sum n ys) ∙ sum_by-IsPermutation (hit n) xs ys moved ∙ times_sum n xs

pub outside_none : (n : ℕ) (xs : List ℕ) → IsOutside n xs → times n xs ≡ 0
outside_none n [] out = refl
outside_none n (x ∷ xs) out = let here = hit_none n x out.0 in let rest = outside_none n xs out.1 in omega arith

pub none_outside : (n : ℕ) (xs : List ℕ) → times n xs ≡ 0 → IsOutside n xs
none_outside n [] none = tt
none_outside n (x ∷ xs) none = (none_hit n x (omega arith), none_outside n xs (omega arith))

-- once: the page stands there
pub times_one : (n : ℕ) (xs : List ℕ) → times n (n ∷ xs) ≡ 1 + times n xs
times_one n xs = ap (λ (k : ℕ). k + times n xs) (hit_one n)

pub apart_once : (xs : List ℕ) → IsApart xs → (n : ℕ) → times n xs ≤ 1
apart_once [] apart n = omega arith
apart_once (x ∷ xs) apart n =
    ⊎_elim
    (λ same.
    let out : times n xs ≡ 0 = outside_none n xs (let P : ℕ → Type 0 = λ m. IsOutside m xs in subst P (sym same.1) apart.0) in
    let one : hit n x ≤ 1 = rw (same.0) (omega arith) in omega arith)
    (λ other. let none : hit n x ≡ 0 = hit_none n x other.1 in let rest = apart_once xs apart.1 n in omega arith)
    (eqb_tells n x)

pub once_apart : (xs : List ℕ) → ((n : ℕ) → times n xs ≤ 1) → IsApart xs
once_apart [] once = tt
once_apart (x ∷ xs) once = (
  none_outside x xs (let here = once x in let one = hit_one x in omega arith),
  once_apart xs (λ n. let here = once n in omega arith),
)

pub apart_moved : (xs ys : List ℕ) → IsPermutation xs ys → IsApart xs → IsApart ys
apart_moved xs ys moved apart = once_apart ys (λ n. omega (arith, times-permutation n xs ys moved, apart_once xs apart n))

pub apart_left : (xs ys : List ℕ) → IsApart (xs ++ ys) → IsApart xs
apart_left xs ys apart = once_apart xs (λ n. omega (arith, times-append n xs ys, apart_once (xs ++ ys) apart n))

pub apart_right : (xs ys : List ℕ) → IsApart (xs ++ ys) → IsApart ys
apart_right xs ys apart = once_apart ys (λ n. omega (arith, times-append n xs ys, apart_once (xs ++ ys) apart n))

-- a page of the middle stands at neither side
pub apart_before : (xs : List ℕ) (x : ℕ) (ys : List ℕ) → IsApart (xs ++ x ∷ ys) → IsOutside x xs
apart_before xs x ys apart = none_outside x xs (omega (arith, times-append x xs (x ∷ ys), times_one x ys, apart_once (xs ++ x ∷ ys) apart x))

pub apart_behind : (xs : List ℕ) (x : ℕ) (ys : List ℕ) → IsApart (xs ++ x ∷ ys) → IsOutside x ys
apart_behind xs x ys apart = none_outside x ys (omega (arith, times-append x xs (x ∷ ys), times_one x ys, apart_once (xs ++ x ∷ ys) apart x))

-- pages below a count, and one that isn't below it
pub above_outside : (n count : ℕ) (xs : List ℕ) → count ≤ n → AllByRecursion (λ page. page < count) xs → IsOutside n xs
above_outside n count xs above all = all_weaker (λ (page : ℕ). page < count) (λ (page : ℕ). n ≢ page) xs (λ x below same. omega arith) all

above_all : (count len : ℕ) (n : ℕ) → n < count → times n (range_with_len count len) ≡ 0
above_all count zero n below = refl
above_all count (suc len) n below =
    let here = hit_none n count (λ same. omega arith) in
    let rest = above_all (count + 1) len n (omega arith) in omega arith

range_apart : (count len : ℕ) → IsApart (range_with_len count len)
range_apart count zero = tt
range_apart count (suc len) = (none_outside count (range_with_len (count + 1) len) (above_all (count + 1) len count (omega arith)), range_apart (count + 1) len)

range_once : (xs : List ℕ) (count len n : ℕ) → IsApart xs → AllByRecursion (λ page. page < count) xs → times n xs + times n (range_with_len count len) ≤ 1
range_once xs count len n apart below =
    ⊎_elim
    (λ low. omega (arith, above_all count len n low, apart_once xs apart n))
    (λ high. omega (arith, outside_none n xs (above_outside n count xs high below), apart_once (range_with_len count len) (range_apart count len) n))
    (cases_lt n count)

-- pages that lie apart lie apart from those that the count grew by
pub apart_grown : (xs : List ℕ) (count later : ℕ) → IsApart xs → AllByRecursion (λ page. page < count) xs → IsApart (xs ++ grown count later)
apart_grown xs count later apart below = once_apart (xs ++ grown count later) (λ n. omega (arith, times-append n xs (grown count later), range_once xs count (later - count) n apart below))

pub same_count : (count later : ℕ) → count ≡ later → grown count later ≡ []
same_count count later same = let none : later - count ≡ 0 = omega arith in rw none refl

pub one_more : (count : ℕ) → grown count (count + 1) ≡ count ∷ []
one_more count = let one : (count + 1) - count ≡ 1 = omega arith in rw one refl

-- each page of the second list is outside the first
pub apart_each : (xs ys : List ℕ) → IsApart (xs ++ ys) → AllByRecursion (λ page. IsOutside page xs) ys
apart_each xs [] apart = tt
apart_each xs (y ∷ ys) apart = (
  apart_before xs y ys apart,
  apart_each xs ys (once_apart (xs ++ ys) (λ n. omega (arith, times-append n xs (y ∷ ys), times-append n xs ys, apart_once (xs ++ y ∷ ys) apart n))),
)

-- pages below a count that lie apart are no more than the count
without : ℕ → List ℕ → List ℕ
without m [] = []
without m (x ∷ xs) = cond (eqb m x) (without m xs) (x ∷ without m xs)

without_same : (m x : ℕ) (xs : List ℕ) → eqb m x ≡ true → without m (x ∷ xs) ≡ without m xs
unfolding without
without_same m x xs same = rw same refl

without_other : (m x : ℕ) (xs : List ℕ) → eqb m x ≡ false → without m (x ∷ xs) ≡ x ∷ without m xs
unfolding without
without_other m x xs other = rw other refl

without_length : (m : ℕ) (xs : List ℕ) → length xs ≡ length (without m xs) + times m xs
unfolding without
without_length m [] = refl
without_length m (x ∷ xs) =
    let rest = without_length m xs in
    ⊎_elim
    (λ same.
    let cut = ap (λ (l : List ℕ). length l) (without_same m x xs same.0) in
    let one : hit m x ≡ 1 = rw (same.0) refl in omega (arith, cut, rest, one))
    (λ other.
    let cut : length (without m (x ∷ xs)) ≡ length (x ∷ without m xs) = ap (λ (l : List ℕ). length l) (without_other m x xs other.0) in
    let none : hit m x ≡ 0 = rw (other.0) refl in omega (arith, cut, rest, none))
    (eqb_tells m x)

without_times : (m n : ℕ) (xs : List ℕ) → times n (without m xs) ≤ times n xs
unfolding without
without_times m n [] = omega arith
without_times m n (x ∷ xs) =
    let rest = without_times m n xs in
    ⊎_elim
    (λ same. let cut = ap (λ (l : List ℕ). times n l) (without_same m x xs same.0) in omega (arith, cut, rest))
    (λ other. let cut : times n (without m (x ∷ xs)) ≡ times n (x ∷ without m xs) = ap (λ (l : List ℕ). times n l) (without_other m x xs other.0) in omega (arith, cut, rest))
    (eqb_tells m x)

without_below : (m : ℕ) (xs : List ℕ) → AllByRecursion (λ page. page < suc m) xs → AllByRecursion (λ page. page < m) (without m xs)
unfolding without
without_below m [] all = tt
without_below m (x ∷ xs) all =
    let Q : List ℕ → Type 0 = λ l. AllByRecursion (λ (page : ℕ). page < m) l in
    ⊎_elim
    (λ same. subst Q (sym (without_same m x xs same.0)) (without_below m xs all.1))
    (λ other. subst Q (sym (without_other m x xs other.0)) (let differ = other.1 in let here = all.0 in omega arith, without_below m xs all.1))
    (eqb_tells m x)

pub apart_few : (count : ℕ) (xs : List ℕ) → IsApart xs → AllByRecursion (λ page. page < count) xs → length xs ≤ count
apart_few zero [] apart below = omega arith
apart_few zero (x ∷ xs) apart below = absurd (let here = below.0 in omega arith)
apart_few (suc m) xs apart below =
    let rest = apart_few m (without m xs) (once_apart (without m xs) (λ n. omega (arith, without_times m n xs, apart_once xs apart n))) (without_below m xs below) in
    omega (arith, rest, without_length m xs, apart_once xs apart m)

-- a map with one page put
pub with_other : (map : PageMap) (page : ℕ) (bytes : List ℕ) (n : ℕ) → n ≢ page → with_page map page bytes n ≡ map n
with_other map page bytes n differ = ⊎_elim (λ same. absurd (differ same.1)) (λ other. rw (other.0) refl) (eqb_tells n page)

pub with_same : (map : PageMap) (page : ℕ) (bytes : List ℕ) → with_page map page bytes page ≡ Some bytes
with_same map page bytes = ⊎_elim (λ same. rw (same.0) refl) (λ other. absurd (other.1 refl)) (eqb_tells page page)

-- pages outside of those that changed are the same
pub all_same : (old new : PageMap) (changed pages : List ℕ) → ChangesOnly old new changed → AllByRecursion (λ page. page ≢ 0) pages → AllByRecursion (λ page. IsOutside page changed) pages
    → AllByRecursion (λ page. new page ≡ old page) pages
all_same old new changed [] only some outside = tt
all_same old new changed (page ∷ pages) only some outside = (only page some.0 outside.0, all_same old new changed pages only some.1 outside.1)

pub put_same : (map : PageMap) (page : ℕ) (bytes : List ℕ) (pages : List ℕ) → IsOutside page pages → AllByRecursion (λ n. with_page map page bytes n ≡ map n) pages
put_same map page bytes pages outside = all_weaker (λ (n : ℕ). page ≢ n) (λ (n : ℕ). with_page map page bytes n ≡ map n) pages (λ n differ. with_other map page bytes n (λ same. differ (sym same))) outside

-- the free pages, where their pages and page 0 are the same
free_chain_same : (old new : PageMap) (first : ℕ) (pages : List ℕ) → AllByRecursion (λ page. new page ≡ old page) pages → IsFreeChain old first pages → IsFreeChain new first pages
free_chain_same old new first [] same chain = chain
free_chain_same old new first (page ∷ pages) same chain = (chain.0, chain.1, (chain.2.0, chain.2.1, same.0 ∙ chain.2.2, free_chain_same old new chain.2.0 pages same.1 chain.2.3))

pub free_list_same : (old new : PageMap) (count later : ℕ) (free : List ℕ) → new 0 ≡ old 0 → AllByRecursion (λ page. new page ≡ old page) free → count ≤ later
    → IsFreeList old count free → IsFreeList new later free
free_list_same old new count later free zero_same same more list = record {
  header = list.header;
  at_zero = zero_same ∙ list.at_zero;
  first = list.first;
  fits = list.fits;
  at_first = list.at_first;
  chain = free_chain_same old new list.first free same list.chain;
  apart = list.apart;
  below = all_weaker (λ (page : ℕ). page < count) (λ (page : ℕ). page < later) free (λ page here. omega arith) list.below;
}

pub free_list_put : (map : PageMap) (count page : ℕ) (bytes : List ℕ) (free : List ℕ) → page ≢ 0 → IsOutside page free → IsFreeList map count free
    → IsFreeList (with_page map page bytes) count free
free_list_put map count page bytes free some outside list =
    free_list_same map (with_page map page bytes) count count free (with_other map page bytes 0 (λ same. some (sym same))) (put_same map page bytes free outside) (omega arith) list

-- free pages that are spelled don't start broken
pub starts_sound : (map : PageMap) (count : ℕ) (free : List ℕ) → StartsBroken map count → IsFreeList map count free → ⊥
starts_sound map count free broken list =
    let headers : list.header ≡ broken.header = (let e : Some list.header ≡ Some broken.header = sym list.at_zero ∙ broken.at_zero in cc) in
    let field : HasFirst broken.header list.first = subst (λ (l : List ℕ). HasFirst l list.first) headers list.at_first in
    let first : list.first ≡ broken.first = le64-same list.first broken.first list.fits broken.fits (sym field ∙ broken.at_first) in
    starts map count broken.first free broken.some broken.no_page (subst (λ (n : ℕ). IsFreeChain map n free) first list.chain) list.below
  where
    starts : (map : PageMap) (count first : ℕ) (free : List ℕ) → first ≢ 0 → (first < count → (next : ℕ) → next < 2 ^ 64 → map first ≢ Some (free_page_of next))
        → IsFreeChain map first free → AllByRecursion (λ page. page < count) free → ⊥
    starts map count first [] some none chain below = some chain
    starts map count first (page ∷ pages) some none chain below =
        let here = below.0 in
        let same = chain.0 in
        none (omega arith) chain.2.0 chain.2.1 (ap (λ (n : ℕ). map n) same ∙ chain.2.2)

-- page 0, through more than one change
pub header_none : (map : PageMap) → KeepsHeader map map
header_none map = λ before at. (before, at, refl, refl, refl)

pub header_join : (old mid new : PageMap) → KeepsHeader old mid → KeepsHeader mid new → KeepsHeader old new
header_join old mid new first second = λ before at.
    let one = first before at in
    let two = second one.0 one.1 in
    (two.0, two.1, two.2 ∙ one.2, two.3 ∙ one.3, two.4 ∙ one.4)

pub header_same : (old mid new : PageMap) → KeepsHeader old mid → new 0 ≡ mid 0 → KeepsHeader old new
header_same old mid new first same = λ before at. let one = first before at in (one.0, same ∙ one.1, one.2, one.3, one.4)

-- a page that was taken
pub taken_pages : (old new : PageMap) (count later page : ℕ) (free rest before : List ℕ) → Taken old new count later page free rest
    → before ++ free ++ grown count later ≡ before ++ page ∷ rest
taken_pages old new count later page free rest before taken =
    ⊎_elim
    (λ none. rw (none.0, none.3, one_more count, none.1, none.2, append-nil) refl)
    (λ some. rw (same_count count later (sym some.1), some.0, append-nil) refl)
    taken.from

pub taken_apart : (old new : PageMap) (count later page : ℕ) (free rest before : List ℕ) → Taken old new count later page free rest → IsApart (before ++ free)
    → AllByRecursion (λ other. other < count) (before ++ free) → IsApart (before ++ page ∷ rest)
taken_apart old new count later page free rest before taken apart below =
    subst (λ (l : List ℕ). IsApart l) (taken_pages old new count later page free rest before taken) (apart_grown (before ++ free) count later apart below)

-- the same at an equal map and equal counts
pub free_list_at : (a b : PageMap) (m n : ℕ) (free : List ℕ) → a ≡ b → m ≡ n → IsFreeList b n free → IsFreeList a m free
free_list_at a b m n free map count list =
    subst (λ (p : PageMap). IsFreeList p m free) (sym map) (subst (λ (k : ℕ). IsFreeList b k free) (sym count) list)

pub takes_at : (a b new : PageMap) (m n later last page : ℕ) → a ≡ b → m ≡ n → later ≡ last
    → ((free : List ℕ) → IsFreeList a m free → (rest : List ℕ) × Taken a new m later page free rest)
    → (free : List ℕ) → IsFreeList b n free → (rest : List ℕ) × Taken b new n last page free rest
takes_at a b new m n later last page map count end takes =
    subst (λ (p : PageMap). (free : List ℕ) → IsFreeList p n free → (rest : List ℕ) × Taken p new n last page free rest) map
    (subst (λ (k : ℕ). (free : List ℕ) → IsFreeList a k free → (rest : List ℕ) × Taken a new k last page free rest) count
    (subst (λ (k : ℕ). (free : List ℕ) → IsFreeList a m free → (rest : List ℕ) × Taken a new m k page free rest) end takes))

pub gives_at : (a b new : PageMap) (m n page : ℕ) → a ≡ b → m ≡ n
    → ((list : List ℕ) → IsFreeList a m list → AllByRecursion (λ other. page ≢ other) list → Given a new m page list)
    → (list : List ℕ) → IsFreeList b n list → AllByRecursion (λ other. page ≢ other) list → Given b new n page list
gives_at a b new m n page map count gives =
    subst (λ (p : PageMap). (list : List ℕ) → IsFreeList p n list → AllByRecursion (λ (other : ℕ). page ≢ other) list → Given p new n page list) map
    (subst (λ (k : ℕ). (list : List ℕ) → IsFreeList a k list → AllByRecursion (λ (other : ℕ). page ≢ other) list → Given a new k page list) count gives)

-- an order of the same pages
pub same_pages : (xs ys : List ℕ) → xs ≡ ys → IsPermutation xs ys
same_pages xs ys same = subst (λ (l : List ℕ). IsPermutation xs l) same (IsPermutation-refl xs)

-- the pages that a count grew by, in two steps
range_split : (a m n k b : ℕ) → k ≡ m + n → b ≡ a + m → range_with_len a k ≡ range_with_len a m ++ range_with_len b n
range_split a zero n k b size at = let ke : k ≡ n = omega (arith, size) in let be : b ≡ a = omega (arith, at) in rw (ke, be) refl
range_split a (suc m) n zero b size at = absurd (omega (arith, size))
range_split a (suc m) n (suc k) b size at = ap (λ (l : List ℕ). a ∷ l) (range_split (a + 1) m n k b (omega (arith, size)) (omega (arith, at)))

grown_split : (a b c : ℕ) → a ≤ b → b ≤ c → grown a c ≡ grown a b ++ grown b c
grown_split a b c first second = range_split a (b - a) (c - b) (c - a) b (omega (arith, first, second)) (omega (arith, first, second))

-- a page that isn't new and stands nowhere before stands nowhere afterwards
outside_later : (page count later : ℕ) (pages moved : List ℕ) → page < count → IsPermutation (pages ++ grown count later) moved → IsOutside page pages → IsOutside page moved
outside_later page count later pages moved below perm out =
    none_outside page moved (omega (
      arith,
      times-permutation page (pages ++ grown count later) moved perm,
      times-append page pages (grown count later),
      outside_none page pages out,
      above_all count (later - count) page below,
    ))

at_most_on : (a b c : ℕ) → a ≤ b → b ≤ c → a ≤ c
at_most_on a b c x y = omega (arith, x, y)

module _ {P : Type 0} (g : Ghosts P) where
  -- before the first call, and one call behind another
  pub quiet_none : ((s : P) → g.follows s s) → (pages : P) → StaysQuiet g pages pages
  quiet_none itself pages = record {
    said = refl;
    committed = refl;
    committed_count = refl;
    spoiled = refl;
    begun = refl;
    follows = itself pages;
    faults = omega arith;
    images = λ map may. may;
    time = record { later = omega arith; nothing_else = λ t m le since. inl since; keeps = λ t m le past. past };
  }

  pub quiet_join : ((a b c : P) → g.follows a b → g.follows b c → g.follows a c) → (old mid new : P) → StaysQuiet g old mid → StaysQuiet g mid new → StaysQuiet g old new
  quiet_join on_and_on old mid new first second = record {
    said = second.said ∙ first.said;
    committed = second.committed ∙ first.committed;
    committed_count = second.committed_count ∙ first.committed_count;
    spoiled = second.spoiled ∙ first.spoiled;
    begun = second.begun ∙ first.begun;
    follows = on_and_on old mid new first.follows second.follows;
    faults = omega (arith, first.faults, second.faults);
    images = λ map may. first.images map (second.images map may);
    time = record {
      later = omega (arith, first.time.later, second.time.later);
      nothing_else = λ t m le since.
          let on = λ (u : ℕ) (l : u ≤ g.moment old). at_most_on u (g.moment old) (g.moment mid) l first.time.later in
          ⊎_elim
          (λ past. ⊎_elim (λ before. inl before) (λ new. inr (new.0, λ u l. second.time.keeps u m (on u l) (new.1 u l))) (first.time.nothing_else t m le past))
          (λ now. inr ((first.images m.image now.0.0, now.0.1 ∙ ap (λ (said : Said). said.bytes) first.said), λ u l. now.1 u (on u l)))
          (second.time.nothing_else t m (on t le) since);
      keeps = λ t m le past. second.time.keeps t m (omega (arith, le, first.time.later)) (first.time.keeps t m le past);
    };
  }

  -- Pages are kept where only those of the structure changed, the ones of before and the ones of now.
  pub keeps_of : (old new : P) (before free after rest : List ℕ) → g.count old ≤ g.count new → ChangesOnly (g.map old) (g.map new) (before ++ after) → KeepsHeader (g.map old) (g.map new)
      → IsFreeList (g.map new) (g.count new) rest → IsPermutation (before ++ free ++ grown (g.count old) (g.count new)) (after ++ rest) → KeepsPages g old new before free after rest
  keeps_of old new before free after rest grows only header frees kept = record {
    grows = grows;
    others = λ page some below out.
        let later = outside_later page (g.count old) (g.count new) (before ++ free) (after ++ rest) below kept out in
        only page some (none_outside page (before ++ after) (omega (
          arith,
          times-append page before after,
          times-append page after rest,
          times-append page before free,
          outside_none page (after ++ rest) later,
          outside_none page (before ++ free) out,
        )));
    header = header;
    frees = frees;
    kept = kept;
  }

  -- nothing is changed yet
  pub keeps_none : (pages : P) (before free : List ℕ) → IsFreeList (g.map pages) (g.count pages) free → KeepsPages g pages pages before free before free
  keeps_none pages before free frees = record {
    grows = omega arith;
    others = λ page some below out. refl;
    header = header_none (g.map pages);
    frees = frees;
    kept = same_pages (before ++ free ++ grown (g.count pages) (g.count pages)) (before ++ free)
        (ap (λ (l : List ℕ). before ++ free ++ l) (same_count (g.count pages) (g.count pages) refl) ∙ append-nil (before ++ free));
  }

  -- nothing was changed before
  pub keeps_from : (old mid new : P) (before free after rest : List ℕ) → g.map mid ≡ g.map old → g.count mid ≡ g.count old → KeepsPages g mid new before free after rest → KeepsPages g old new before free after rest
  keeps_from old mid new before free after rest map count keeps = record {
    grows = let grows = keeps.grows in omega (arith, grows, count);
    others = λ page some below out. keeps.others page some (omega (arith, below, count)) out ∙ ap (λ (m : PageMap). m page) map;
    header = subst (λ (m : PageMap). KeepsHeader m (g.map new)) map keeps.header;
    frees = keeps.frees;
    kept = subst (λ (n : ℕ). IsPermutation (before ++ free ++ grown n (g.count new)) (after ++ rest)) count keeps.kept;
  }

  -- one change behind another
  pub keeps_join : (old mid new : P) (before free middle left after rest : List ℕ) → KeepsPages g old mid before free middle left → KeepsPages g mid new middle left after rest
      → KeepsPages g old new before free after rest
  keeps_join old mid new before free middle left after rest first second =
      let a = grown (g.count old) (g.count mid) in
      let b = grown (g.count mid) (g.count new) in
      let regroup : before ++ free ++ grown (g.count old) (g.count new) ≡ (before ++ free ++ a) ++ b =
      ap (λ (l : List ℕ). before ++ free ++ l) (grown_split (g.count old) (g.count mid) (g.count new) first.grows second.grows) ∙ sym (append_assoc (before ++ free) a b) in
      let step = first.grows in
      record {
        grows = omega (arith, first.grows, second.grows);
        others = λ page some below out.
            second.others page some (omega (arith, below, step)) (outside_later page (g.count old) (g.count mid) (before ++ free) (middle ++ left) below first.kept out)
            ∙ first.others page some below out;
        header = header_join (g.map old) (g.map mid) (g.map new) first.header second.header;
        frees = second.frees;
        kept = subst (λ (l : List ℕ). IsPermutation l (after ++ rest)) (sym regroup)
            (IsPermutation-trans ((before ++ free ++ a) ++ b) ((middle ++ left) ++ b) (after ++ rest) (IsPermutation-append_left b (before ++ free ++ a) (middle ++ left) first.kept) second.kept);
      }

  -- What lay apart from a structure and its free pages, below the count, lies apart from them when pages were kept.
  pub kept_apart : (old new : P) (before free after rest : List ℕ) → KeepsPages g old new before free after rest → IsApart (before ++ free)
      → AllByRecursion (λ page. page < g.count old) (before ++ free) → IsApart (after ++ rest)
  kept_apart old new before free after rest kept apart below =
      apart_moved (before ++ free ++ grown (g.count old) (g.count new)) (after ++ rest) kept.kept (apart_grown (before ++ free) (g.count old) (g.count new) apart below)

  pub kept_beside : (old new : P) (before free after rest others : List ℕ) → KeepsPages g old new before free after rest → IsApart (before ++ free ++ others)
      → AllByRecursion (λ page. page < g.count old) (before ++ free ++ others) → IsApart (after ++ rest ++ others)
  kept_beside old new before free after rest others kept apart below =
      let more = grown (g.count old) (g.count new) in
      let all = apart_grown (before ++ free ++ others) (g.count old) (g.count new) apart below in
      once_apart (after ++ rest ++ others) (λ n. omega (
        arith,
        times-append n (after ++ rest) others,
        times-permutation n (before ++ free ++ more) (after ++ rest) kept.kept,
        times-append n (before ++ free) more,
        times-append n (before ++ free) others,
        times-append n (before ++ free ++ others) more,
        apart_once (before ++ free ++ others ++ more) all n,
      ))
