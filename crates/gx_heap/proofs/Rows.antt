-- Lists of rows: by rising numbers, without some, and on one page.
use Rattle.std.proofs.Common.{◌≡◌, ◌≢◌, ◌⊎◌, inl, inr, ⊎_elim, ℕ, ◌<◌, ◌==◌, Bool, true, false, not, List, [], ◌∷◌, ◌++◌, refl, sym, ◌∙◌, ap, subst, arith}
use Rattle.std.specs.List.{AllByRecursion, filter}
use Rattle.std.proofs.lemmas.Bool.Decides.{eqb_tells}
use Rattle.gx_pages.specs.declared.row.RowRef.{RowRef}
use Rattle.gx_pages.specs.Rows.{IsRising}
use Rattle.gx_pages.proofs.Footprints as feet
use Rattle.gx_heap.specs.Heaps.{Row, AreRows, IsIn, refs, without}

-- what a filter keeps
pub filter_yes : (p : Row → Bool) (row : Row) (rows : List Row) → p row ≡ true → filter p (row ∷ rows) ≡ row ∷ filter p rows
filter_yes p row rows holds = rw holds refl

pub filter_no : (p : Row → Bool) (row : Row) (rows : List Row) → p row ≡ false → filter p (row ∷ rows) ≡ filter p rows
filter_no p row rows fails = rw fails refl

by_test : (b : Bool) → (b ≡ true) ⊎ (b ≡ false)
by_test true = inl refl
by_test false = inr refl

pub filter_join : (p : Row → Bool) (xs ys : List Row) → filter p (xs ++ ys) ≡ filter p xs ++ filter p ys
filter_join p [] ys = refl
filter_join p (x ∷ xs) ys =
    ⊎_elim
    (λ holds. filter_yes p x (xs ++ ys) holds ∙ ap (λ (l : List Row). x ∷ l) (filter_join p xs ys) ∙ ap (λ (l : List Row). l ++ filter p ys) (sym (filter_yes p x xs holds)))
    (λ fails. filter_no p x (xs ++ ys) fails ∙ filter_join p xs ys ∙ ap (λ (l : List Row). l ++ filter p ys) (sym (filter_no p x xs fails)))
    (by_test (p x))

pub filter_all : (p : Row → Bool) (rows : List Row) → AllByRecursion (λ row. p row ≡ true) rows → filter p rows ≡ rows
filter_all p [] all = refl
filter_all p (row ∷ rows) all = filter_yes p row rows all.0 ∙ ap (λ (l : List Row). row ∷ l) (filter_all p rows all.1)

pub filter_none : (p : Row → Bool) (rows : List Row) → AllByRecursion (λ row. p row ≡ false) rows → filter p rows ≡ []
filter_none p [] all = refl
filter_none p (row ∷ rows) all = filter_no p row rows all.0 ∙ filter_none p rows all.1

-- what holds of all rows holds of those that a filter keeps
pub all_filter : (Q : RowRef → Type 0) (p : Row → Bool) (rows : List Row) → AllByRecursion Q (refs rows) → AllByRecursion Q (refs (filter p rows))
all_filter Q p [] all = tt
all_filter Q p (row ∷ rows) all =
    ⊎_elim
    (λ holds. subst (λ (l : List Row). AllByRecursion Q (refs l)) (sym (filter_yes p row rows holds)) (all.0, all_filter Q p rows all.1))
    (λ fails. subst (λ (l : List Row). AllByRecursion Q (refs l)) (sym (filter_no p row rows fails)) (all_filter Q p rows all.1))
    (by_test (p row))

pub rising_filter : (p : Row → Bool) (rows : List Row) → IsRising (refs rows) → IsRising (refs (filter p rows))
rising_filter p [] rising = tt
rising_filter p (row ∷ rows) rising =
    ⊎_elim
    (λ holds. subst (λ (l : List Row). IsRising (refs l)) (sym (filter_yes p row rows holds)) (all_filter (λ (at : RowRef). row.0.number < at.number) p rows rising.0, rising_filter p rows rising.1))
    (λ fails. subst (λ (l : List Row). IsRising (refs l)) (sym (filter_no p row rows fails)) (rising_filter p rows rising.1))
    (by_test (p row))

-- a row has another number
abbrev pub other_than : ℕ → Row → Bool
other_than number row = not (row.0.number == number)

pub is_other : (number : ℕ) (row : Row) → row.0.number ≢ number → other_than number row ≡ true
is_other number row differ = ⊎_elim (λ same. absurd (differ same.1)) (λ other. rw (other.0) refl) (eqb_tells row.0.number number)

pub is_same : (number : ℕ) (row : Row) → row.0.number ≡ number → other_than number row ≡ false
is_same number row same = ⊎_elim (λ holds. rw (holds.0) refl) (λ other. absurd (other.1 same)) (eqb_tells row.0.number number)

others_below : (number : ℕ) (rows : List Row) → AllByRecursion (λ at. number < at.number) (refs rows) → AllByRecursion (λ row. other_than number row ≡ true) rows
others_below number [] all = tt
others_below number (row ∷ rows) all = (is_other number row (λ same. let less = all.0 in omega (arith, same, less)), others_below number rows all.1)

-- Of rows by rising numbers one is taken out.
pub without_one : (xs : List Row) (row : Row) (ys : List Row) → IsRising (refs (xs ++ row ∷ ys)) → filter (other_than row.0.number) (xs ++ row ∷ ys) ≡ xs ++ ys
without_one [] row ys rising = filter_no (other_than row.0.number) row ys (is_same row.0.number row refl) ∙ filter_all (other_than row.0.number) ys (others_below row.0.number ys rising.0)
without_one (x ∷ xs) row ys rising =
    filter_yes (other_than row.0.number) x (xs ++ row ∷ ys) (is_other row.0.number x (λ same. let less : x.0.number < row.0.number = stands_there x.0.number xs row ys rising.0 in omega (arith, same, less)))
    ∙ ap (λ (l : List Row). x ∷ l) (without_one xs row ys rising.1)
  where
    stands_there : (n : ℕ) (xs : List Row) (row : Row) (ys : List Row) → AllByRecursion (λ at. n < at.number) (refs (xs ++ row ∷ ys)) → n < row.0.number
    stands_there n [] row ys all = all.0
    stands_there n (x ∷ xs) row ys all = stands_there n xs row ys all.1

pub without_join : (run more : List RowRef) (rows : List Row) → without (run ++ more) rows ≡ without more (without run rows)
without_join [] more rows = refl
without_join (at ∷ run) more rows = without_join run more (filter (λ (row : Row). not (row.0.number == at.number)) rows)

pub all_without : (Q : RowRef → Type 0) (gone : List RowRef) (rows : List Row) → AllByRecursion Q (refs rows) → AllByRecursion Q (refs (without gone rows))
all_without Q [] rows all = all
all_without Q (at ∷ gone) rows all = all_without Q gone (filter (λ (row : Row). not (row.0.number == at.number)) rows) (all_filter Q (λ (row : Row). not (row.0.number == at.number)) rows all)

-- a row with another number stays
in_filter : (number : ℕ) (row : Row) (rows : List Row) → row.0.number ≢ number → IsIn row rows → IsIn row (filter (other_than number) rows)
in_filter number row [] differ fails = fails
in_filter number row (x ∷ rows) differ is =
    ⊎_elim
    (λ holds. subst (λ (l : List Row). IsIn row l) (sym (filter_yes (other_than number) x rows holds)) (⊎_elim (λ same. inl same) (λ rest. inr (in_filter number row rows differ rest)) is))
    (λ fails. subst (λ (l : List Row). IsIn row l) (sym (filter_no (other_than number) x rows fails))
    (⊎_elim (λ same. absurd (let holds : other_than number x ≡ true = is_other number x (λ e. differ (ap (λ (r : Row). r.0.number) (sym same) ∙ e)) in cc)) (λ rest. in_filter number row rows differ rest) is))
    (by_test (other_than number x))

-- rows of the list that are still to be removed
pub still_rows : (run more : List RowRef) (rows : List Row) → IsRising (run ++ more) → AreRows more rows → AreRows more (without run rows)
still_rows [] more rows rising are = are
still_rows (at ∷ run) more rows rising are = still_rows run more (filter (other_than at.number) rows) rising.1 (each more (feet.all_right (λ (other : RowRef). at.number < other.number) run more rising.0) are)
  where
    each : (more : List RowRef) → AllByRecursion (λ other. at.number < other.number) more → AreRows more rows → AreRows more (filter (other_than at.number) rows)
    each [] less are = tt
    each (other ∷ more) less are =
        ((are.0.0, in_filter at.number (other, are.0.0) rows (λ same. let low = less.0 in omega (arith, same, low)) are.0.1), each more less.1 are.1)

pub rising_right : (run more : List RowRef) → IsRising (run ++ more) → IsRising more
rising_right [] more rising = rising
rising_right (at ∷ run) more rising = rising_right run more rising.1

-- membership
pub in_left : (row : Row) (xs ys : List Row) → IsIn row (xs ++ ys) → IsIn row xs ⊎ IsIn row ys
in_left row [] ys is = inr is
in_left row (x ∷ xs) ys is = ⊎_elim (λ same. inl (inl same)) (λ rest. ⊎_elim (λ left. inl (inr left)) (λ right. inr right) (in_left row xs ys rest)) is
