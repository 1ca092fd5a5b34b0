-- The rows of a heap that a list of rows names.
use Rattle.std.proofs.Common.{◌≡◌, inl, inr, ⊎_elim, ℕ, ◌<◌, List, [], ◌∷◌, ◌++◌, refl, sym, ◌∙◌, ap, subst, arith}
use Rattle.std.specs.List.{AllByRecursion}
use Rattle.gx_pages.specs.declared.row.RowRef.{RowRef}
use Rattle.gx_pages.specs.Rows.{IsRising}
use Rattle.gx_pages.proofs.Footprints.{all_weaker}
use Rattle.gx_heap.specs.Heaps.{Row, AreRows, IsIn, refs}
use Rattle.gx_bitmap.specs.Scans.{AreCandidates}

pub candidates_of : (left : List RowRef) (rows : List Row) → AreRows left rows → (candidates : List Row) × AreCandidates left rows candidates
candidates_of [] rows are = ([], record { are = refl; stand = tt })
candidates_of (at ∷ left) rows are =
    let rest = candidates_of left rows are.1 in
    ((at, are.0.0) ∷ rest.0, record { are = ap (λ (l : List RowRef). at ∷ l) rest.1.are; stand = (are.0.1, rest.1.stand) })

in_above : (n : ℕ) (row : Row) (rows : List Row) → AllByRecursion (λ o. n < o.number) (refs rows) → IsIn row rows → n < row.0.number
in_above n row [] above is = absurd is
in_above n row (other ∷ rows) above is = ⊎_elim (λ same. subst (λ (r : Row). n < r.0.number) same above.0) (λ rest. in_above n row rows above.1 rest) is

-- one row stands there
one_row : (row other : Row) (rows : List Row) → row.0 ≡ other.0 → IsRising (refs rows) → IsIn row rows → IsIn other rows → row ≡ other
one_row row other [] same rising is also = absurd is
one_row row other (first ∷ rows) same rising is also =
    ⊎_elim
    (λ here.
    ⊎_elim (λ too. sym here ∙ too)
    (λ there. absurd (let above = in_above first.0.number other rows rising.0 there in let at = ap (λ (r : Row). r.0.number) here in let equal = ap (λ (r : RowRef). r.number) same in omega (arith, above, at, equal))) also)
    (λ there.
    ⊎_elim
    (λ too. absurd (let above = in_above first.0.number row rows rising.0 there in let at = ap (λ (r : Row). r.0.number) too in let equal = ap (λ (r : RowRef). r.number) same in omega (arith, above, at, equal)))
    (λ also_there. one_row row other rows same rising.1 there also_there) also)
    is

pub one_list : (left : List RowRef) (rows candidates others : List Row) → IsRising (refs rows) → refs candidates ≡ left → AllByRecursion (λ row. IsIn row rows) candidates
    → refs others ≡ left → AllByRecursion (λ row. IsIn row rows) others → candidates ≡ others
one_list left rows [] [] rising are stand also too = refl
one_list left rows [] (other ∷ others) rising are stand also too = absurd (let never : [] ≡ other.0 ∷ refs others = are ∙ sym also in cc)
one_list left rows (row ∷ candidates) [] rising are stand also too = absurd (let never : row.0 ∷ refs candidates ≡ [] = are ∙ sym also in cc)
one_list left rows (row ∷ candidates) (other ∷ others) rising are stand also too =
    let same : row.0 ∷ refs candidates ≡ other.0 ∷ refs others = are ∙ sym also in
    let first : row.0 ≡ other.0 = (cc) in
    let rest : refs candidates ≡ refs others = (cc) in
    let one : row ≡ other = one_row row other rows first rising stand.0 too.0 in
    let tail : candidates ≡ others = one_list (refs others) rows candidates others rising rest stand.1 refl too.1 in
    λ i. one i ∷ tail i

each_in : (rows more : List Row) → ((row : Row) → IsIn row rows → IsIn row more) → AllByRecursion (λ row. IsIn row more) rows
each_in [] more all = tt
each_in (row ∷ rows) more all = (all row (inl refl), each_in rows more (λ other is. all other (inr is)))

pub all_rows : (rows : List Row) → AllByRecursion (λ row. IsIn row rows) rows
all_rows rows = each_in rows rows (λ row is. is)
