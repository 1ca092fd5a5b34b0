-- The order of numbers is one.
use Rattle.std.proofs.Common.{◌≡◌, ℕ, ◌^◌, ◌<◌, ◌≤◌, List, [], ◌∷◌, ◌++◌, length, Option, Some, None, refl, sym, ◌∙◌, ap, subst, arith}
use Rattle.std.specs.List.{AllByRecursion}
use Rattle.gx_bytes.specs.Fields.{le64, of64, of64-le64, length-le64}
use Rattle.gx_pages.specs.declared.row.RowRef.{RowRef}
use Rattle.gx_pages.specs.Rows.{IsRising}
use Rattle.gx_pages.proofs.Footprints as feet
use Rattle.gx_posting.specs.Postings.{Fits}
use Rattle.gx_posting.proofs.PostingFacts.{one_spelled}
use Rattle.gx_tree.specs.Orders.{IsFrom, IsLawful, IsUnder}
use Rattle.gx_posting_tree.specs.PostingTrees.{AreSpelled, HaveRows, IsFirst, IsFromKey, IsNumber, IsUnderKey, by_number}
use Rattle.gx_posting_tree.specs.Spelled.{rising_left, spelled_join, spelled_split}

pub rising_right : (xs ys : List RowRef) → IsRising (xs ++ ys) → IsRising ys
rising_right [] ys rising = rising
rising_right (x ∷ xs) ys rising = rising_right xs ys rising.1

-- rows below a number, and rows from it on
pub rising_join : (xs ys : List RowRef) (n : ℕ) → IsRising xs → IsRising ys → AllByRecursion (λ row. row.number < n) xs → AllByRecursion (λ row. n ≤ row.number) ys → IsRising (xs ++ ys)
rising_join [] ys n first last below from = last
rising_join (x ∷ xs) ys n first last below from = (
  feet.all_join (λ (row : RowRef). x.number < row.number) xs ys first.0
      (feet.all_weaker (λ (row : RowRef). n ≤ row.number) (λ (row : RowRef). x.number < row.number) ys (λ row low. let b = below.0 in omega (arith, low, b)) from),
  rising_join xs ys n first.1 last below.1 from,
)

-- those before a row are below it
pub rising_across : (xs : List RowRef) (y : RowRef) (ys : List RowRef) → IsRising (xs ++ y ∷ ys) → AllByRecursion (λ row. row.number < y.number) xs
rising_across [] y ys rising = tt
rising_across (x ∷ xs) y ys rising = ((feet.all_right (λ (row : RowRef). x.number < row.number) xs (y ∷ ys) rising.0).0, rising_across xs y ys rising.1)

rising_from : (y : RowRef) (ys : List RowRef) → IsRising (y ∷ ys) → AllByRecursion (λ row. y.number ≤ row.number) (y ∷ ys)
rising_from y ys rising = (
  omega arith,
  feet.all_weaker (λ (row : RowRef). y.number < row.number) (λ (row : RowRef). y.number ≤ row.number) ys (λ row low. omega (arith, low)) rising.0,
)

pub spelled_fit : (items : List (List ℕ)) (rows : List RowRef) → AreSpelled items rows → AllByRecursion Fits rows
spelled_fit [] rows are = subst (λ (l : List RowRef). AllByRecursion Fits l) (sym are) tt
spelled_fit (item ∷ items) rows are = subst (λ (l : List RowRef). AllByRecursion Fits l) (sym are.2) (feet.all_join Fits are.0 are.1 are.5.fit (spelled_fit items are.1 are.6))

spelled_small : (items : List (List ℕ)) (rows : List RowRef) → AreSpelled items rows → AllByRecursion (λ item. length item ≤ 2416) items
spelled_small [] rows are = tt
spelled_small (item ∷ items) rows are = ((let few = are.4 in omega (arith, few)), spelled_small items are.1 are.6)

-- the first row of lists
record Starts (rows : List RowRef) : Type 0 where
  pub row : RowRef
  pub more : List RowRef
  pub is : rows ≡ row ∷ more

starts_list : (list : List RowRef) → 0 < length list → Starts list
starts_list [] some = absurd (omega (arith, some))
starts_list (row ∷ list) some = record { row = row; more = list; is = refl }

spelled_starts : (item : List ℕ) (items : List (List ℕ)) (rows : List RowRef) → AreSpelled (item ∷ items) rows → Starts rows
spelled_starts item items rows are =
    let first = starts_list are.0 are.3 in
    record { row = first.row; more = first.more ++ are.1; is = are.2 ∙ ap (λ (l : List RowRef). l ++ are.1) first.is }

of_key : (least : Option (List ℕ)) (row : RowRef) → row.number < 2 ^ 64 → IsFromKey least row → IsFrom by_number least (le64 row.number)
of_key None row fits from = tt
of_key (Some key) row fits from = rw (of64-le64 row.number fits) from

pub to_key : (least : Option (List ℕ)) (row : RowRef) → row.number < 2 ^ 64 → IsFrom by_number least (le64 row.number) → IsFromKey least row
to_key None row fits from = tt
to_key (Some key) row fits from = let e = of64-le64 row.number fits in let f : of64 key ≤ of64 (le64 row.number) = from in omega (arith, e, f)

to_end : (end : Option (List ℕ)) (row : RowRef) → row.number < 2 ^ 64 → IsUnderKey end row → IsUnder by_number end (le64 row.number)
to_end None row fits under = tt
to_end (Some key) row fits under = rw (of64-le64 row.number fits) under

lower_all : (least lower : Option (List ℕ)) (rows : List RowRef) → ((key : List ℕ) → IsFrom by_number least key → IsFrom by_number lower key) → AllByRecursion Fits rows → AllByRecursion (IsFromKey least) rows → AllByRecursion (IsFromKey lower) rows
lower_all least lower [] falls fit from = tt
lower_all least lower (row ∷ rows) falls fit from =
    (to_key lower row fit.0.0 (falls (le64 row.number) (of_key least row fit.0.0 from.0)), lower_all least lower rows falls fit.1 from.1)

from_on : (least : Option (List ℕ)) (key : List ℕ) (row : RowRef) → IsFrom by_number least key → of64 key ≤ row.number → IsFromKey least row
from_on None key row from low = tt
from_on (Some l) key row from low = let f : of64 l ≤ of64 key = from in omega (arith, f, low)

under_on : (end : Option (List ℕ)) (key : List ℕ) (row : RowRef) → IsUnder by_number end key → row.number < of64 key → IsUnderKey end row
under_on None key row under low = tt
under_on (Some e) key row under low = let f : of64 key < of64 e = under in omega (arith, f, low)

join_rows : (least end : Option (List ℕ)) (key : List ℕ) (front back : List (List ℕ)) → HaveRows least (Some key) front → HaveRows (Some key) end back → IsFrom by_number least key → IsUnder by_number end key → HaveRows least end (front ++ back)
join_rows least end key front back first last from under = record {
  rows = first.rows ++ last.rows;
  spelled = spelled_join front back first.rows last.rows first.spelled last.spelled;
  rising = rising_join first.rows last.rows (of64 key) first.rising last.rising first.under last.from;
  from = feet.all_join (IsFromKey least) first.rows last.rows first.from (feet.all_weaker (λ (row : RowRef). of64 key ≤ row.number) (IsFromKey least) last.rows (λ row low. from_on least key row from low) last.from);
  under = feet.all_join (IsUnderKey end) first.rows last.rows (feet.all_weaker (λ (row : RowRef). row.number < of64 key) (IsUnderKey end) first.rows (λ row low. under_on end key row under low) first.under) last.under;
}

-- lists that are cut before one of them
record CutRows (least end : Option (List ℕ)) (key : List ℕ) (front : List (List ℕ)) (item : List ℕ) (back : List (List ℕ)) : Type 0 where
  pub number : IsNumber key
  pub from : IsFrom by_number least key
  pub under : IsUnder by_number end key
  pub before : HaveRows least (Some key) front
  pub behind : HaveRows (Some key) end (item ∷ back)

cut_rows : (least end : Option (List ℕ)) (key item : List ℕ) (front back : List (List ℕ)) → HaveRows least end (front ++ item ∷ back) → IsFirst item key → CutRows least end key front item back
cut_rows least end key item front back have first =
    let both = spelled_split front (item ∷ back) have.rows have.spelled in
    let list_is : both.behind.0 ≡ first.row ∷ first.rows = one_spelled item both.behind.0 (first.row ∷ first.rows) both.behind.5 first.spells in
    let right_is : both.right ≡ first.row ∷ (first.rows ++ both.behind.1) = both.behind.2 ∙ ap (λ (l : List RowRef). l ++ both.behind.1) list_is in
    let all_is : have.rows ≡ both.left ++ first.row ∷ (first.rows ++ both.behind.1) = both.cut ∙ ap (λ (l : List RowRef). both.left ++ l) right_is in
    let fits : first.row.number < 2 ^ 64 = first.spells.fit.0.0 in
    let number : of64 key ≡ first.row.number = ap of64 first.is ∙ of64-le64 first.row.number fits in
    let rising = subst (λ (l : List RowRef). IsRising l) all_is have.rising in
    let from = subst (λ (l : List RowRef). AllByRecursion (IsFromKey least) l) all_is have.from in
    let under = subst (λ (l : List RowRef). AllByRecursion (IsUnderKey end) l) all_is have.under in
    let tail : List RowRef = first.row ∷ (first.rows ++ both.behind.1) in
    let from_tail = feet.all_right (IsFromKey least) both.left tail from in
    let under_tail = feet.all_right (IsUnderKey end) both.left tail under in
    let tail_rising = rising_right both.left tail rising in
    record {
      number = record { number = first.row.number; fits = fits; is = first.is };
      from = subst (λ (k : List ℕ). IsFrom by_number least k) (sym first.is) (of_key least first.row fits from_tail.0);
      under = subst (λ (k : List ℕ). IsUnder by_number end k) (sym first.is) (to_end end first.row fits under_tail.0);
      before = record {
        rows = both.left;
        spelled = both.before;
        rising = rising_left both.left tail rising;
        from = feet.all_left (IsFromKey least) both.left tail from;
        under = feet.all_weaker (λ (row : RowRef). row.number < first.row.number) (λ (row : RowRef). row.number < of64 key) both.left (λ row low. omega (arith, low, number)) (rising_across both.left first.row (first.rows ++ both.behind.1) rising);
      };
      behind = record {
        rows = tail;
        spelled = subst (λ (l : List RowRef). AreSpelled (item ∷ back) l) right_is both.behind;
        rising = tail_rising;
        from = feet.all_weaker (λ (row : RowRef). first.row.number ≤ row.number) (λ (row : RowRef). of64 key ≤ row.number) tail (λ row low. omega (arith, low, number)) (rising_from first.row (first.rows ++ both.behind.1) tail_rising);
        under = under_tail;
      };
    }

between_rows : (a b item : List ℕ) (items : List (List ℕ)) → HaveRows (Some a) (Some b) (item ∷ items) → of64 a < of64 b
between_rows a b item items have =
    let first = spelled_starts item items have.rows have.spelled in
    let from = (subst (λ (l : List RowRef). AllByRecursion (IsFromKey (Some a)) l) first.is have.from).0 in
    let under = (subst (λ (l : List RowRef). AllByRecursion (IsUnderKey (Some b)) l) first.is have.under).0 in
    omega (arith, from, under)

pub lawful : IsLawful by_number
lawful = record {
  strict = λ a less. omega (arith, less);
  most_less = λ a b c most less. omega (arith, most, less);
  less_most = λ a b c less most. omega (arith, most, less);
  most_most = λ a b c first second. omega (arith, first, second);
  less_is_most = λ a b less. omega (arith, less);
  itself = λ a. omega arith;
  between = between_rows;
  short = λ key is. let e = ap (λ (l : List ℕ). length l) is.is in omega (arith, e, length-le64 is.number);
  small = λ least end items have. spelled_small items have.rows have.spelled;
  none = λ least end. record { rows = []; spelled = refl; rising = tt; from = tt; under = tt };
  lower = λ least lower end items falls have. record {
    rows = have.rows;
    spelled = have.spelled;
    rising = have.rising;
    from = lower_all least lower have.rows falls (spelled_fit items have.rows have.spelled) have.from;
    under = have.under;
  };
  join = join_rows;
  cut = λ least end key item front back have first.
      let parts = cut_rows least end key item front back have first in
      (parts.number, parts.from, parts.under, parts.before, parts.behind);
}
