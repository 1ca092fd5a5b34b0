-- Rows of a heap change their page as often as there are pages with one of them.
use Rattle.std.proofs.Common.{◌≡◌, ◌≢◌, ◌⊎◌, inl, inr, ⊎_elim, ℕ, ◌+◌, ◌<◌, Bool, true, false, List, [], ◌∷◌, ◌++◌, length, map, Option, None, Some, refl, sym, ◌∙◌, ap, subst, arith}
use Rattle.std.specs.List.{AllByRecursion, filter}
use Rattle.std.proofs.lemmas.Bool.Decides.{eqb_tells}
use Rattle.std.proofs.lemmas.List.{map-append}
use Rattle.gx_pages.specs.declared.row.RowRef.{RowRef}
use Rattle.gx_pages.specs.Footprints.{IsOutside}
use Rattle.gx_pages.specs.Frees.{IsApart}
use Rattle.gx_pages.specs.Rows.{IsRising}
use Rattle.gx_pages.proofs.Footprints as feet
use Rattle.gx_chain.specs.Chains.{Link, entries_at, entries_of, pages_of}
use Rattle.gx_chain.proofs.Links.{pages_mid}
use Rattle.gx_heap.specs.Heaps.{Row, AreRows, IsIn, is_on, refs, row_of, rows_of, runs}
use Rattle.gx_heap.proofs.Entries.{place}
use Rattle.gx_heap.proofs.Rows.{in_left, rising_right}
use Rattle.gx_heap.proofs.Runs.{runs_cut}

-- whether a row of a list stands on a page
on_first : (page : ℕ) (row : RowRef) (rows : List RowRef) → row.page ≡ page → is_on page (row ∷ rows) ≡ true
on_first page row rows same = ⊎_elim (λ holds. rw (holds.0) refl) (λ fails. absurd (fails.1 same)) (eqb_tells row.page page)

on_other : (page : ℕ) (row : RowRef) (rows : List RowRef) → row.page ≢ page → is_on page (row ∷ rows) ≡ is_on page rows
on_other page row rows differ = ⊎_elim (λ holds. absurd (differ holds.1)) (λ fails. rw (fails.0) refl) (eqb_tells row.page page)

on_none : (page : ℕ) (rows : List RowRef) → AllByRecursion (λ row. row.page ≢ page) rows → is_on page rows ≡ false
on_none page [] none = refl
on_none page (row ∷ rows) none = on_other page row rows none.0 ∙ on_none page rows none.1

on_behind : (page other : ℕ) (run more : List RowRef) → AllByRecursion (λ row. row.page ≡ page) run → page ≢ other → is_on other (run ++ more) ≡ is_on other more
on_behind page other [] more stand differ = refl
on_behind page other (row ∷ run) more stand differ = on_other other row (run ++ more) (λ same. differ (sym stand.0 ∙ same)) ∙ on_behind page other run more stand.1 differ

all_behind : (page : ℕ) (run more : List RowRef) → AllByRecursion (λ row. row.page ≡ page) run → (pages : List ℕ) → IsOutside page pages
    → AllByRecursion (λ other. is_on other (run ++ more) ≡ is_on other more) pages
all_behind page run more stand [] out = tt
all_behind page run more stand (other ∷ pages) out = (on_behind page other run more stand out.0, all_behind page run more stand pages out.1)

-- pages that a test keeps
kept : (test : ℕ → Bool) (page : ℕ) (pages : List ℕ) → test page ≡ true → filter test (page ∷ pages) ≡ page ∷ filter test pages
kept test page pages holds = rw holds refl

passed : (test : ℕ → Bool) (page : ℕ) (pages : List ℕ) → test page ≡ false → filter test (page ∷ pages) ≡ filter test pages
passed test page pages fails = rw fails refl

by_test : (b : Bool) → (b ≡ true) ⊎ (b ≡ false)
by_test true = inl refl
by_test false = inr refl

same_kept : (one other : ℕ → Bool) (pages : List ℕ) → AllByRecursion (λ page. one page ≡ other page) pages → filter one pages ≡ filter other pages
same_kept one other [] same = refl
same_kept one other (page ∷ pages) same =
    ⊎_elim
    (λ holds. kept one page pages holds ∙ ap (λ (l : List ℕ). page ∷ l) (same_kept one other pages same.1) ∙ sym (kept other page pages (sym same.0 ∙ holds)))
    (λ fails. passed one page pages fails ∙ same_kept one other pages same.1 ∙ sym (passed other page pages (sym same.0 ∙ fails)))
    (by_test (one page))

-- rows of two parts of a list by rising numbers
behind_in : (row : Row) (here rest : List Row) → IsIn row rest → IsIn row (here ++ rest)
behind_in row [] rest is = is
behind_in row (x ∷ here) rest is = inr (behind_in row here rest is)

above : (number : ℕ) (rows : List Row) → AllByRecursion (λ at. number < at.number) (refs rows) → (row : Row) → IsIn row rows → number < row.0.number
above number [] all row is = absurd is
above number (x ∷ rows) all row is = ⊎_elim (λ same. subst (λ (r : Row). number < r.0.number) same all.0) (λ more. above number rows all.1 row more) is

below_in : (here rest : List Row) → IsRising (refs (here ++ rest)) → (row other : Row) → IsIn row here → IsIn other rest → row.0.number < other.0.number
below_in [] rest rising row other is there = absurd is
below_in (x ∷ here) rest rising row other is there =
    ⊎_elim
    (λ same. subst (λ (r : Row). r.0.number < other.0.number) same (above x.0.number (here ++ rest) rising.0 other (behind_in other here rest there)))
    (λ more. below_in here rest rising.1 row other more there) is

rising_behind : (here rest : List Row) → IsRising (refs (here ++ rest)) → IsRising (refs rest)
rising_behind [] rest rising = rising
rising_behind (x ∷ here) rest rising = rising_behind here rest rising.1

all_later : (row : Row) (here rest : List Row) → IsRising (refs (here ++ rest)) → IsIn row rest → (some : List RowRef) → AllByRecursion (λ at. row.0.number < at.number) some
    → AreRows some (here ++ rest) → AreRows some rest
all_later row here rest rising is [] higher are = tt
all_later row here rest rising is (at ∷ some) higher are = (
  (
    are.0.0,
    ⊎_elim
        (λ left. let low : at.number < row.0.number = below_in here rest rising (at, are.0.0) row left is in let high : row.0.number < at.number = higher.0 in absurd (omega (arith, low, high)))
        (λ right. right) (in_left (at, are.0.0) here rest are.0.1),
  ),
  all_later row here rest rising is some higher.1 are.1,
)

here_on : (page from : ℕ) (items : List (Option (List ℕ))) → AllByRecursion (λ row. row.0.page ≡ page) (map row_of (entries_at page from items))
here_on page from [] = tt
here_on page from (None ∷ items) = here_on page (from + 1) items
here_on page from (Some item ∷ items) = (refl, here_on page (from + 1) items)

page_in : (page : ℕ) (rows : List Row) → AllByRecursion (λ row. row.0.page ≡ page) rows → (row : Row) → IsIn row rows → row.0.page ≡ page
page_in page [] on row is = absurd is
page_in page (x ∷ rows) on row is = ⊎_elim (λ same. subst (λ (r : Row). r.0.page ≡ page) same on.0) (λ more. page_in page rows on.1 row more) is

-- Rows of a heap, cut behind those on the first page.
record AtFront (page : ℕ) (rest : List Row) (some : List RowRef) : Type 0 where
  pub run : List RowRef
  pub more : List RowRef
  pub cut : some ≡ run ++ more
  pub stand : AllByRecursion (λ row. row.page ≡ page) run
  pub left : AreRows more rest

at_front : (page : ℕ) (here rest : List Row) → AllByRecursion (λ row. row.0.page ≡ page) here → IsRising (refs (here ++ rest)) → (some : List RowRef) → IsRising some
    → AreRows some (here ++ rest) → AtFront page rest some
at_front page here rest on rising [] up are = record { run = []; more = []; cut = refl; stand = tt; left = tt }
at_front page here rest on rising (at ∷ some) up are =
    ⊎_elim
    (λ left.
    let next = at_front page here rest on rising some up.1 are.1 in
    record {
      run = at ∷ next.run;
      more = next.more;
      cut = ap (λ (l : List RowRef). at ∷ l) next.cut;
      stand = (page_in page here on (at, are.0.0) left, next.stand);
      left = next.left;
    })
    (λ right. record {
      run = [];
      more = at ∷ some;
      cut = refl;
      stand = tt;
      left = ((are.0.0, right), all_later (at, are.0.0) here rest rising right some up.0 are.1);
    })
    (in_left (at, are.0.0) here rest are.0.1)

outside : (page : ℕ) (links : List Link) → IsOutside page (pages_of links) → (some : List RowRef) → AreRows some (rows_of links) → AllByRecursion (λ row. row.page ≢ page) some
outside page links out [] are = tt
outside page links out (at ∷ some) are =
    let there = place links (at, are.0.0) are.0.1 in
    let mid : pages_of links ≡ pages_of there.front ++ at.page ∷ pages_of there.back = ap (λ (l : List Link). pages_of l) there.cut ∙ pages_mid there.front (at.page, there.items) there.back in (
      λ same. (feet.all_right (λ (n : ℕ). page ≢ n) (pages_of there.front) (at.page ∷ pages_of there.back) (subst (λ (l : List ℕ). IsOutside page l) mid out)).0 (sym same),
      outside page links out some are.1,
    )

starts_other : (page : ℕ) (more : List RowRef) → AllByRecursion (λ row. row.page ≢ page) more → (at : RowRef) (others : List RowRef) → more ≡ at ∷ others → at.page ≢ page
starts_other page more none at others is = (subst (λ (l : List RowRef). AllByRecursion (λ (row : RowRef). row.page ≢ page) l) is none).0

counted : (page : ℕ) (pages : List ℕ) (run more : List RowRef) → AllByRecursion (λ row. row.page ≡ page) run → AllByRecursion (λ row. row.page ≢ page) more → IsOutside page pages
    → runs more ≡ length (filter (λ p. is_on p more) pages) → runs (run ++ more) ≡ length (filter (λ p. is_on p (run ++ more)) (page ∷ pages))
counted page pages [] more stand none out rest =
    rest ∙ ap (λ (l : List ℕ). length l) (sym (passed (λ p. is_on p more) page pages (on_none page more none)))
counted page pages (first ∷ run) more stand none out rest =
    let all : List RowRef = first ∷ run ++ more in
    let one : runs all ≡ 1 + runs more =
    runs_cut all (first ∷ run) more first (run ++ more) refl refl (subst (λ (p : ℕ). AllByRecursion (λ (row : RowRef). row.page ≡ p) (first ∷ run)) (sym stand.0) stand)
    (λ at others is same. starts_other page more none at others is (same ∙ stand.0)) in
    let same : filter (λ p. is_on p all) pages ≡ filter (λ p. is_on p more) pages = same_kept (λ p. is_on p all) (λ p. is_on p more) pages (all_behind page (first ∷ run) more stand pages out) in
    let tail = rest ∙ ap (λ (l : List ℕ). length l) (sym same) in
    let head = ap (λ (l : List ℕ). length l) (kept (λ p. is_on p all) page pages (on_first page first (run ++ more) stand.0)) in
    omega (arith, one, tail, head)

pub one_run : (links : List Link) → IsApart (pages_of links) → IsRising (refs (rows_of links)) → (some : List RowRef) → IsRising some → AreRows some (rows_of links)
    → runs some ≡ length (filter (λ page. is_on page some) (pages_of links))
one_run [] apart rising [] up are = refl
one_run [] apart rising (at ∷ some) up are = absurd are.0.1
one_run (link ∷ links) apart rising some up are =
    let here : List Row = map row_of (entries_at link.0 0 link.1) in
    let all : rows_of (link ∷ links) ≡ here ++ rows_of links = map-append row_of (entries_at link.0 0 link.1) (entries_of links) in
    let rises : IsRising (refs (here ++ rows_of links)) = subst (λ (l : List Row). IsRising (refs l)) all rising in
    let s = at_front link.0 here (rows_of links) (here_on link.0 0 link.1) rises some up (subst (λ (l : List Row). AreRows some l) all are) in
    let rest = one_run links apart.1 (rising_behind here (rows_of links) rises) s.more (rising_right s.run s.more (subst (λ (l : List RowRef). IsRising l) s.cut up)) s.left in
    subst (λ (l : List RowRef). runs l ≡ length (filter (λ page. is_on page l) (pages_of (link ∷ links)))) (sym s.cut)
    (counted link.0 (pages_of links) s.run s.more s.stand (outside link.0 links apart.0 s.more s.left) apart.0 rest)
