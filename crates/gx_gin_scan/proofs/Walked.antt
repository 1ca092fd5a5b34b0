-- Walks over lists of rows.
use Rattle.std.proofs.Common.{◌≡◌, ◌⊎◌, inl, inr, ⊎_elim, ℕ, zero, suc, ◌+◌, ◌<◌, ◌≤◌, ◌==◌, ◌||◌, Bool, true, false, cond, IsTrue, ◌↔◌, List, [], ◌∷◌, ◌++◌, length, filter, take, get_or, Contains, refl, sym, ◌∙◌, ap, subst, append_assoc, append-nil, arith}
use Rattle.std.specs.List.{AllByRecursion}
use Rattle.std.specs.List.Sorted.{IsNonDecreasingBy, IsPermutation}
use Rattle.std.proofs.lemmas.List.Elements.{filter_more}
use Rattle.std.proofs.lemmas.List.Sorted.{IsPermutation-sym, list_any-IsPermutation}
use Rattle.std.proofs.lemmas.Bool.{cases_lt}
use Rattle.std.proofs.lemmas.Bool.Decides.{eqb_tells}
use Rattle.std.proofs.lemmas.List.{map-append}
use Rattle.gx_pages.specs.declared.row.RowRef.{RowRef}
use Rattle.gx_pages.specs.Rows.{AreBelow, HasNumber, IsRising}
use Rattle.gx_gist.specs.declared.test.Test.{Test}
use Rattle.gx_gin_scan.specs.Lists.{isnt_no}
use Rattle.gx_gin_scan.specs.Searches.{has, joined, marks, picked}

-- one more element
pub take_next : {X : Type 0} (xs : List X) (i : ℕ) (d : X) → i < length xs → take (i + 1) xs ≡ take i xs ++ get_or xs i d ∷ []
take_next [] i d below = absurd (omega (arith, below))
take_next (x ∷ xs) zero d below = refl
take_next (x ∷ xs) (suc i) d below =
    let e : suc i + 1 ≡ suc (i + 1) = omega arith in
    rw e (ap (λ (l : List _). x ∷ l) (take_next xs i d (omega (arith, below))))

pub take_whole : {X : Type 0} (xs : List X) (i : ℕ) → length xs ≤ i → take i xs ≡ xs
take_whole [] zero past = refl
take_whole [] (suc i) past = refl
take_whole (x ∷ xs) zero past = absurd (omega (arith, past))
take_whole (x ∷ xs) (suc i) past = ap (λ (l : List _). x ∷ l) (take_whole xs i (omega (arith, past)))

-- rows of a number
has_of : (rows : List RowRef) (n : ℕ) → has rows n ≡ true → HasNumber rows n
has_of [] n sure = let e : false ≡ true = sure in absurd (let never : ⊥ = cc in never)
has_of (row ∷ rows) n sure =
    ⊎_elim
    (λ same. inl same.1)
    (λ other. inr (has_of rows n (let e : (false || has rows n) ≡ true = subst (λ (b : Bool). (b || has rows n) ≡ true) other.0 sure in e)))
    (eqb_tells row.number n)

of_has : (rows : List RowRef) (n : ℕ) → HasNumber rows n → has rows n ≡ true
of_has [] n there = absurd there
of_has (row ∷ rows) n there =
    ⊎_elim
    (λ same. rw (same.0) refl)
    (λ other. rw (other.0) (⊎_elim (λ e. absurd (other.1 e)) (λ rest. of_has rows n rest) there))
    (eqb_tells row.number n)

pub has_tells : (rows : List RowRef) (n : ℕ) → (has rows n ≡ true) ↔ HasNumber rows n
has_tells rows n = (has_of rows n, of_has rows n)

both_true : (a b : Bool) → (a ≡ true → b ≡ true) → (b ≡ true → a ≡ true) → a ≡ b
both_true true b there back = sym (there refl)
both_true false true there back = back refl
both_true false false there back = refl

pub has_result : (b : Bool) (rows : List RowRef) (n : ℕ) → IsTrue b ↔ HasNumber rows n → b ≡ has rows n
has_result b rows n tells = both_true b (has rows n) (λ sure. of_has rows n (tells.0 sure)) (λ sure. tells.1 (has_of rows n sure))

number_moved : (xs ys : List RowRef) (n : ℕ) → IsPermutation xs ys → HasNumber xs n → HasNumber ys n
number_moved xs ys n moved there = has_of ys n (sym (list_any-IsPermutation (λ (row : RowRef). row.number == n) xs ys moved) ∙ of_has xs n there)

pub numbers_moved : (xs ys : List RowRef) (n : ℕ) → IsPermutation xs ys → HasNumber ys n ↔ HasNumber xs n
numbers_moved xs ys n moved = (number_moved ys xs n (IsPermutation-sym xs ys moved), number_moved xs ys n moved)

-- one more list
pub marks_next : (lists : List (List RowRef)) (i n : ℕ) (d : List RowRef) → i < length lists → marks (take (i + 1) lists) n ≡ marks (take i lists) n ++ has (get_or lists i d) n ∷ []
marks_next lists i n d below =
    ap (λ (l : List (List RowRef)). marks l n) (take_next lists i d below) ∙ map-append (λ (rows : List RowRef). has rows n) (take i lists) (get_or lists i d ∷ [])

joined_append : (xs ys : List (List RowRef)) → joined (xs ++ ys) ≡ joined xs ++ joined ys
joined_append [] ys = refl
joined_append (x ∷ xs) ys = ap (λ (l : List RowRef). x ++ l) (joined_append xs ys) ∙ sym (append_assoc x (joined xs) (joined ys))

pub joined_next : (lists : List (List RowRef)) (i : ℕ) (d : List RowRef) → i < length lists → joined (take (i + 1) lists) ≡ joined (take i lists) ++ get_or lists i d
joined_next lists i d below =
    ap (λ (l : List (List RowRef)). joined l) (take_next lists i d below) ∙ joined_append (take i lists) (get_or lists i d ∷ [])
    ∙ ap (λ (l : List RowRef). joined (take i lists) ++ l) (append-nil (get_or lists i d))

-- numbers of rows with one more
pub number_push : (rows : List RowRef) (row : RowRef) (n : ℕ) → HasNumber (rows ++ row ∷ []) n ↔ (HasNumber rows n ⊎ (row.number ≡ n))
number_push [] row n = (λ there. ⊎_elim (λ e. inr e) (λ never. absurd never) there, λ either. ⊎_elim (λ never. absurd never) (λ e. inl e) either)
number_push (r ∷ rows) row n =
    let rest = number_push rows row n in (
      λ there. ⊎_elim (λ e. inl (inl e)) (λ h. ⊎_elim (λ a. inl (inr a)) (λ b. inr b) (rest.0 h)) there,
      λ either. ⊎_elim (λ h. ⊎_elim (λ e. inl e) (λ a. inr (rest.1 (inl a))) h) (λ b. inr (rest.1 (inr b))) either,
    )

-- a row that isn't above all
pub record Reached (rows : List RowRef) (number : ℕ) : Type 0 where
  pub least : ℕ
  pub there : HasNumber rows least
  pub most : number ≤ least

pub not_below : (rows : List RowRef) (n : ℕ) → (AreBelow rows n → ⊥) → Reached rows n
not_below [] n none = absurd (none tt)
not_below (row ∷ rows) n none =
    ⊎_elim
    (λ low. let rest = not_below rows n (λ all. none (low, all)) in record { least = rest.least; there = inr rest.there; most = rest.most })
    (λ high. record { least = row.number; there = inl refl; most = high })
    (cases_lt row.number n)

pub below_or : (rows : List RowRef) (n : ℕ) → AreBelow rows n ⊎ (AreBelow rows n → ⊥)
below_or [] n = inl tt
below_or (row ∷ rows) n =
    ⊎_elim
    (λ low. ⊎_elim (λ all. inl (low, all)) (λ none. inr (λ all. none all.1)) (below_or rows n))
    (λ high. inr (λ all. let low = all.0 in omega (arith, low, high)))
    (cases_lt row.number n)

-- the place of a number
pub record Placed (rows : List RowRef) (number : ℕ) (d : RowRef) : Type 0 where
  pub at : ℕ
  pub below : at < length rows
  pub is : (get_or rows at d).number ≡ number

number_place : (rows : List RowRef) (n : ℕ) (d : RowRef) → HasNumber rows n → Placed rows n d
number_place [] n d there = absurd there
number_place (row ∷ rows) n d there =
    ⊎_elim
    (λ same. record { at = 0; below = omega arith; is = same })
    (λ h. let rest = number_place rows n d h in record { at = suc rest.at; below = (let b = rest.below in omega (arith, b)); is = rest.is })
    there

take_place : (rows : List RowRef) (i n : ℕ) (d : RowRef) → HasNumber (take i rows) n → (k : ℕ) × (k < i) × (k < length rows) × ((get_or rows k d).number ≡ n)
take_place rows zero n d there = absurd there
take_place [] (suc i) n d there = absurd there
take_place (row ∷ rows) (suc i) n d there =
    ⊎_elim
    (λ same. (0, omega arith, omega arith, same))
    (λ h. let rest = take_place rows i n d h in (suc rest.0, (let b = rest.1 in omega (arith, b)), (let b = rest.2 in omega (arith, b)), rest.3))
    there

-- Of the first rows in order those are kept that begin a number.
pub record Firsts (rows kept : List RowRef) (i : ℕ) : Type 0 where
  pub numbers : (number : ℕ) → HasNumber kept number ↔ HasNumber (take i rows) number
  pub among : (row : RowRef) → Contains kept row → Contains rows row

pub firsts_none : (rows : List RowRef) → Firsts rows [] 0
firsts_none rows = record { numbers = λ n. (λ never. never, λ never. never); among = λ row has. let below = has.1 in absurd (omega (arith, below)) }

contains_push : (rows : List RowRef) (row x : RowRef) → Contains (rows ++ row ∷ []) x → Contains rows x ⊎ (row ≡ x)
contains_push [] row x (zero, below, is) = inr is
contains_push [] row x (suc k, below, is) = absurd (omega (arith, below))
contains_push (r ∷ rows) row x (zero, below, is) = inl (zero, omega arith, is)
contains_push (r ∷ rows) row x (suc k, below, is) =
    ⊎_elim (λ h. inl (suc h.0, (let b = h.1 in omega (arith, b)), h.2)) (λ e. inr e) (contains_push rows row x (k, omega (arith, below), is))

contains_at : (rows : List RowRef) (i : ℕ) (d : RowRef) → i < length rows → Contains rows (get_or rows i d)
contains_at [] i d below = absurd (omega (arith, below))
contains_at (row ∷ rows) zero d below = (zero, omega arith, refl)
contains_at (row ∷ rows) (suc i) d below = let rest = contains_at rows i d (omega (arith, below)) in (suc rest.0, (let b = rest.1 in omega (arith, b)), rest.2)

module _ (rows kept later : List RowRef) (i : ℕ) (d : RowRef) (below : i < length rows) (so_far : Firsts rows kept i) where
  abbrev here : RowRef
  here = get_or rows i d

  pub firsts_added : later ≡ kept ++ here ∷ [] → Firsts rows later (i + 1)
  firsts_added is = record {
    numbers = λ n.
        let taken = number_push (take i rows) here n in
        let put = number_push kept here n in
        let cut = take_next rows i d below in (
          λ there. subst (λ (l : List RowRef). HasNumber l n) (sym cut)
              (taken.1 (⊎_elim (λ h. inl ((so_far.numbers n).0 h)) (λ e. inr e) (put.0 (subst (λ (l : List RowRef). HasNumber l n) is there)))),
          λ there. subst (λ (l : List RowRef). HasNumber l n) (sym is)
              (put.1 (⊎_elim (λ h. inl ((so_far.numbers n).1 h)) (λ e. inr e) (taken.0 (subst (λ (l : List RowRef). HasNumber l n) cut there)))),
        );
    among = λ row has.
        ⊎_elim (λ h. so_far.among row h) (λ e. subst (λ (r : RowRef). Contains rows r) e (contains_at rows i d below))
        (contains_push kept here row (subst (λ (l : List RowRef). Contains l row) is has));
  }

  pub firsts_left : IsNonDecreasingBy (λ (row : RowRef). row.number) rows → (AreBelow kept here.number → ⊥) → later ≡ kept → Firsts rows later (i + 1)
  firsts_left sorted none is =
      let reached = not_below kept here.number none in
      let place = take_place rows i reached.least d ((so_far.numbers reached.least).0 reached.there) in
      let low = sorted place.0 i d (let b = place.1 in omega (arith, b)) below in
      let at = place.3 in
      let most = reached.most in
      let same : reached.least ≡ here.number = omega (arith, low, at, most) in
      record {
        numbers = λ n.
            let taken = number_push (take i rows) here n in
            let cut = take_next rows i d below in (
              λ there. subst (λ (l : List RowRef). HasNumber l n) (sym cut) (taken.1 (inl ((so_far.numbers n).0 (subst (λ (l : List RowRef). HasNumber l n) is there)))),
              λ there. subst (λ (l : List RowRef). HasNumber l n) (sym is)
                  (⊎_elim (λ h. (so_far.numbers n).1 h) (λ e. subst (λ (m : ℕ). HasNumber kept m) (same ∙ e) reached.there) (taken.0 (subst (λ (l : List RowRef). HasNumber l n) cut there))),
            );
        among = λ row has. so_far.among row (subst (λ (l : List RowRef). Contains l row) is has);
      }

-- rows that are picked stand in order
across : (rows : List RowRef) (i : ℕ) (d : RowRef) → IsRising rows → i < length rows → AreBelow (take i rows) (get_or rows i d).number
across [] i d rising below = absurd (omega (arith, below))
across (row ∷ rows) zero d rising below = tt
across (row ∷ rows) (suc i) d rising below = (above_at row.number rows i d (omega (arith, below)) rising.0, across rows i d rising.1 (omega (arith, below)))
  where
    above_at : (number : ℕ) (rows : List RowRef) (i : ℕ) (d : RowRef) → i < length rows → AllByRecursion (λ row. number < row.number) rows → number < (get_or rows i d).number
    above_at number [] i d below all = absurd (omega (arith, below))
    above_at number (row ∷ rows) zero d below all = all.0
    above_at number (row ∷ rows) (suc i) d below all = above_at number rows i d (omega (arith, below)) all.1

pub all_filter : {X : Type 0} (Q : X → Type 0) (p : X → Bool) (xs : List X) → AllByRecursion Q xs → AllByRecursion Q (filter p xs)
all_filter Q p [] all = tt
all_filter Q p (x ∷ xs) all = kept (p x) Q x (filter p xs) all.0 (all_filter Q p xs all.1)
  where
    kept : (b : Bool) {X : Type 0} (Q : X → Type 0) (x : X) (ys : List X) → Q x → AllByRecursion Q ys → AllByRecursion Q (cond b (x ∷ ys) ys)
    kept true Q x ys here rest = (here, rest)
    kept false Q x ys here rest = rest

pub picked_below : (passes : List Bool → Test) (lists : List (List RowRef)) (rows : List RowRef) (i : ℕ) (d : RowRef) → IsRising rows → i < length rows → AreBelow (picked passes lists (take i rows)) (get_or rows i d).number
picked_below passes lists rows i d rising below =
    all_filter (λ (row : RowRef). row.number < (get_or rows i d).number) (λ (row : RowRef). isnt_no (passes (marks lists row.number))) (take i rows) (across rows i d rising below)

pub picked_next : (passes : List Bool → Test) (lists : List (List RowRef)) (rows : List RowRef) (i : ℕ) (d : RowRef) → i < length rows
    → picked passes lists (take (i + 1) rows) ≡ picked passes lists (take i rows) ++ cond (isnt_no (passes (marks lists (get_or rows i d).number))) (get_or rows i d ∷ []) []
picked_next passes lists rows i d below = filter_more (λ (row : RowRef). isnt_no (passes (marks lists row.number))) rows i d below
