-- Runs of rows on one page.
use Rattle.std.proofs.Common.{◌≡◌, ◌≢◌, ⊎_elim, ℕ, ◌+◌, ◌<◌, ◌≤◌, List, [], ◌∷◌, ◌++◌, length, Option, refl, sym, ◌∙◌, ap, arith}
use Rattle.std.specs.List.{AllByRecursion}
use Rattle.std.proofs.lemmas.Bool.Decides.{eqb_tells}
use Rattle.gx_pages.specs.declared.row.RowRef.{RowRef}
use Rattle.gx_heap.specs.Heaps.{Empties, runs, turns}

pub turn_none : (page : ℕ) (row : RowRef) (rows : List RowRef) → row.page ≡ page → turns page (row ∷ rows) ≡ turns page rows
turn_none page row rows same = ⊎_elim (λ holds. rw (holds.0) refl) (λ fails. absurd (fails.1 same)) (eqb_tells row.page page)

pub turn_one : (page : ℕ) (row : RowRef) (rows : List RowRef) → row.page ≢ page → turns page (row ∷ rows) ≡ 1 + turns row.page rows
turn_one page row rows differ = ⊎_elim (λ holds. absurd (differ holds.1)) (λ fails. rw (fails.0) refl) (eqb_tells row.page page)

turns_run : (page : ℕ) (run rest : List RowRef) → AllByRecursion (λ at. at.page ≡ page) run → ((at : RowRef) (others : List RowRef) → rest ≡ at ∷ others → at.page ≢ page)
    → turns page (run ++ rest) ≡ runs rest
turns_run page [] [] on stops = refl
turns_run page [] (at ∷ others) on stops = turn_one page at others (stops at others refl)
turns_run page (at ∷ run) rest on stops = turn_none page at (run ++ rest) on.0 ∙ turns_run page run rest on.1 stops

pub empties_on : (page : ℕ) (run : List RowRef) (old new : List (Option (List ℕ))) → Empties page run old new → AllByRecursion (λ at. at.page ≡ page) run
empties_on page [] old new empties = tt
empties_on page (at ∷ run) old new empties = (empties.0, empties_on page run _ new empties.2)

pub runs_cut : (rows run rest : List RowRef) (first : RowRef) (more : List RowRef) → rows ≡ run ++ rest → rows ≡ first ∷ more → AllByRecursion (λ at. at.page ≡ first.page) run
    → ((at : RowRef) (others : List RowRef) → rest ≡ at ∷ others → at.page ≢ first.page) → runs rows ≡ 1 + runs rest
runs_cut rows run rest first more cut begins on stops =
    ap (λ (l : List RowRef). runs l) begins
    ∙ ap (λ (n : ℕ). 1 + n) (sym (turn_none first.page first more refl) ∙ ap (λ (l : List RowRef). turns first.page l) (sym begins ∙ cut) ∙ turns_run first.page run rest on stops)

pub some_runs : (rows : List RowRef) → 0 < length rows → 1 ≤ runs rows
some_runs [] some = absurd (omega (arith, some))
some_runs (row ∷ rows) some = omega arith
