-- Lists of rows by rising numbers, and what a filter by numbers keeps of them.
use Rattle.std.proofs.Common.{◌≡◌, ◌≢◌, ◌⊎◌, inl, inr, ⊎_elim, ◌<◌, ◌≤◌, ◌==◌, Bool, true, false, not, List, [], ◌∷◌, ◌++◌, filter, refl, sym, ◌∙◌, ap, arith}
use Rattle.std.specs.List.{AllByRecursion}
use Rattle.std.proofs.lemmas.Bool.Decides.{eqb_tells}
use Rattle.gx_pages.specs.declared.row.RowRef.{RowRef}
use Rattle.gx_pages.specs.Rows.{AreBelow, IsRising}
use Rattle.gx_pages.proofs.Footprints.{all_join, all_left, all_right, all_weaker}
use Rattle.gx_bitmap.specs.Merges.{AreAbove, is_among}

pub rising_tail : (xs : List RowRef) (y : RowRef) (ys : List RowRef) → IsRising (xs ++ y ∷ ys) → IsRising (xs ++ ys)
rising_tail [] y ys rising = rising.1
rising_tail (x ∷ xs) y ys rising = (
  all_join (λ (o : RowRef). x.number < o.number) xs ys (all_left (λ (o : RowRef). x.number < o.number) xs (y ∷ ys) rising.0) (all_right (λ (o : RowRef). x.number < o.number) xs (y ∷ ys) rising.0).1,
  rising_tail xs y ys rising.1,
)

pub below_mid : (xs : List RowRef) (y : RowRef) (ys : List RowRef) → IsRising (xs ++ y ∷ ys) → AreBelow xs y.number
below_mid [] y ys rising = tt
below_mid (x ∷ xs) y ys rising = ((all_right (λ (o : RowRef). x.number < o.number) xs (y ∷ ys) rising.0).0, below_mid xs y ys rising.1)

pub rising_right : (xs ys : List RowRef) → IsRising (xs ++ ys) → IsRising ys
rising_right [] ys rising = rising
rising_right (x ∷ xs) ys rising = rising_right xs ys rising.1

pub rising_put : (xs : List RowRef) (y : RowRef) (ys : List RowRef) → IsRising (xs ++ ys) → AreBelow xs y.number → AreAbove y ys → IsRising (xs ++ y ∷ ys)
rising_put [] y ys rising below above = (above, rising)
rising_put (x ∷ xs) y ys rising below above = (
  all_join (λ (o : RowRef). x.number < o.number) xs (y ∷ ys) (all_left (λ (o : RowRef). x.number < o.number) xs ys rising.0) (below.0, all_right (λ (o : RowRef). x.number < o.number) xs ys rising.0),
  rising_put xs y ys rising.1 below.1 above,
)

-- from a row on, where the row before it has a lesser number
pub above_more : (row other : RowRef) (rows : List RowRef) → row.number ≤ other.number → AreAbove other rows → AreAbove row rows
above_more row other rows less above =
    all_weaker (λ (o : RowRef). other.number < o.number) (λ (o : RowRef). row.number < o.number) rows (λ o here. omega (arith, less, here)) above

pub among_no : (row : RowRef) (rows : List RowRef) → AreAbove row rows → is_among row rows ≡ false
among_no row [] above = refl
among_no row (other ∷ rows) above =
    ⊎_elim (λ (same : ((other.number == row.number) ≡ true) × (other.number ≡ row.number)). absurd (let here = above.0 in let is = same.1 in omega (arith, here, is)))
    (λ differ. rw (differ.0) (among_no row rows above.1)) (eqb_tells other.number row.number)

pub among_skip : (row other : RowRef) (rows : List RowRef) → other.number ≢ row.number → is_among row (other ∷ rows) ≡ is_among row rows
among_skip row other rows differ = ⊎_elim (λ same. absurd (differ same.1)) (λ no. rw (no.0) refl) (eqb_tells other.number row.number)

pub among_here : (row other : RowRef) (rows : List RowRef) → other.number ≡ row.number → is_among row (other ∷ rows) ≡ true
among_here row other rows same = ⊎_elim (λ yes. rw (yes.0) refl) (λ no. absurd (no.1 same)) (eqb_tells other.number row.number)

by_test : (b : Bool) → (b ≡ true) ⊎ (b ≡ false)
by_test true = inl refl
by_test false = inr refl

pub keep_yes : (p : RowRef → Bool) (row : RowRef) (rows : List RowRef) → p row ≡ true → filter p (row ∷ rows) ≡ row ∷ filter p rows
keep_yes p row rows holds = rw holds refl

pub keep_no : (p : RowRef → Bool) (row : RowRef) (rows : List RowRef) → p row ≡ false → filter p (row ∷ rows) ≡ filter p rows
keep_no p row rows fails = rw fails refl

pub keep_same : (p q : RowRef → Bool) (rows : List RowRef) → AllByRecursion (λ row. p row ≡ q row) rows → filter p rows ≡ filter q rows
keep_same p q [] same = refl
keep_same p q (row ∷ rows) same =
    ⊎_elim
    (λ yes. keep_yes p row rows yes ∙ ap (λ (l : List RowRef). row ∷ l) (keep_same p q rows same.1) ∙ sym (keep_yes q row rows (sym same.0 ∙ yes)))
    (λ no. keep_no p row rows no ∙ keep_same p q rows same.1 ∙ sym (keep_no q row rows (sym same.0 ∙ no)))
    (by_test (p row))

-- the rows whose number is in a list, and those whose number isn't
abbrev pub common : List RowRef → List RowRef → List RowRef
common others rows = filter (λ row. is_among row others) rows

abbrev pub new_ones : List RowRef → List RowRef → List RowRef
new_ones others rows = filter (λ row. not (is_among row others)) rows

-- a row below all of a list changes nothing of what is in it
same_among : (row : RowRef) (others rows : List RowRef) → AreAbove row rows → AllByRecursion (λ r. is_among r (row ∷ others) ≡ is_among r others) rows
same_among row others rows above =
    all_weaker (λ (r : RowRef). row.number < r.number) (λ (r : RowRef). is_among r (row ∷ others) ≡ is_among r others) rows
    (λ r here. among_skip r row others (λ same. omega (arith, here, same))) above

pub common_right : (row : RowRef) (others rows : List RowRef) → AreAbove row rows → common (row ∷ others) rows ≡ common others rows
common_right row others rows above = keep_same (λ r. is_among r (row ∷ others)) (λ r. is_among r others) rows (same_among row others rows above)

pub common_left : (row : RowRef) (others rows : List RowRef) → AreAbove row others → common others (row ∷ rows) ≡ common others rows
common_left row others rows above = keep_no (λ r. is_among r others) row rows (among_no row others above)

pub common_both : (row other : RowRef) (others rows : List RowRef) → other.number ≡ row.number → AreAbove row rows → common (other ∷ others) (row ∷ rows) ≡ row ∷ common others rows
common_both row other others rows same above =
    keep_yes (λ r. is_among r (other ∷ others)) row rows (among_here row other others same)
    ∙ ap (λ (l : List RowRef). row ∷ l) (common_right other others rows (above_more other row rows (omega (arith, same)) above))

pub new_left : (row : RowRef) (others rows : List RowRef) → AreAbove row rows → new_ones (row ∷ others) rows ≡ new_ones others rows
new_left row others rows above =
    keep_same (λ r. not (is_among r (row ∷ others))) (λ r. not (is_among r others)) rows
    (all_weaker (λ (r : RowRef). is_among r (row ∷ others) ≡ is_among r others) (λ (r : RowRef). not (is_among r (row ∷ others)) ≡ not (is_among r others)) rows
    (λ r here. ap (λ (b : Bool). not b) here) (same_among row others rows above))

pub new_right : (row : RowRef) (others rows : List RowRef) → AreAbove row others → new_ones others (row ∷ rows) ≡ row ∷ new_ones others rows
new_right row others rows above = keep_yes (λ r. not (is_among r others)) row rows (ap (λ (b : Bool). not b) (among_no row others above))

pub new_both : (row other : RowRef) (others rows : List RowRef) → other.number ≡ row.number → AreAbove other rows → new_ones (row ∷ others) (other ∷ rows) ≡ new_ones others rows
new_both row other others rows same above =
    keep_no (λ r. not (is_among r (row ∷ others))) other rows (ap (λ (b : Bool). not b) (among_here other row others (sym same)))
    ∙ new_left row others rows (above_more row other rows (omega (arith, same)) above)
