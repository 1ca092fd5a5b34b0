use Rattle.std.proofs.Common.{◌≡◌, ℕ, List, map, drop, Some}
use Rattle.gx_pages.specs.declared.row.RowRef.{RowRef}
use Rattle.gx_posting_tree.specs.PostingTrees.{AreSpelled}
use Rattle.gx_posting_tree.proofs.Read.{Reads}
use Rattle.gx_posting_tree.proofs.reading.push_rows.Given as goal

abbrev pub invariant-loop-slot : goal.invariant-loop-slot
invariant-loop-slot l = (items : List (List ℕ)) (rows : List RowRef) → l.slots.items ≡ map (λ item. Some item) items → AreSpelled items rows → Reads l.fn.to l.to rows (drop l.slot items)
