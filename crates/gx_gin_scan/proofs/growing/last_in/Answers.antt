use Rattle.std.proofs.Common.{◌≡◌, ◌==◌, ℕ, ◌<◌, List, [], length, Some, IfSome, sym, ◌∙◌, ap, subst, arith}
use Rattle.std.proofs.lemmas.Bool.{false≢true}
use Rattle.gx_pages.specs.declared.row.RowRef.{RowRef}
use Rattle.gx_pages.specs.declared.error.PageError.{PageError}
use Rattle.gx_pages.specs.Rows.{AreBelow}
use Rattle.gx_posting.specs.Postings.{Spells, entries_bytes, last_of}
use Rattle.gx_posting.proofs.PostingFacts.{below_last, one_spelled}
use Rattle.gx_tree.specs.Trees.{IsBrokenOr}
use Rattle.gx_gin_scan.proofs.growing.last_in.Goals as goal
use Rattle.gx_gin_scan.proofs.growing.last_in.Goals.{in_default-via-in-Some+else-last-row, in_default-via-in-None+else-is_empty}

the_last : (list : List ℕ) (last : RowRef) → (rows : List RowRef) × Spells list rows × (last_of rows ≡ Some last) → (rows : List RowRef) → Spells list rows → last_of rows ≡ Some last
the_last list last found rows spells = ap (λ (l : List RowRef). last_of l) (one_spelled list rows found.0 spells found.1) ∙ found.2

pub returns-in-Some-clause-last : goal.returns-in-Some-clause-last
returns-in-Some-clause-last c = the_last c.args.list.now c.in-Some.last c.in-Some.ensures.some

pub returns-in_default-clause-cause : goal.returns-in_default-clause-cause
returns-in_default-clause-cause c =
    subst (λ (e : PageError). IsBrokenOr c.args.page ((rows : List RowRef) → Spells c.args.list.now rows → AreBelow rows c.args.row.number → ⊥) e) (sym c.broken.ensures) (
      (λ same. omega (arith, same)),
      λ rows spells below.
          elim c.in_default.branch [
            | in_default-via-in-Some+else-last-row w ↦
                (let low = subst (λ o. IfSome o (λ last. last.number < c.args.row.number)) (the_last c.args.list.now w.in-Some.last w.in-Some.ensures.some rows spells) (below_last rows c.args.row.number below) in
                let test = w.if-last-row.false in
                omega (arith, low, test))
            | in_default-via-in-None+else-is_empty w ↦
                (let none = w.in-None.ensures.none rows spells in
                let empty : c.args.list.now ≡ [] = spells.are ∙ ap (λ (l : List RowRef). entries_bytes 0 l) none in
                false≢true (sym w.if-is_empty.false ∙ w.is_empty.ensures ∙ ap (λ (l : List ℕ). length l == 0) empty))
          ],
    )
