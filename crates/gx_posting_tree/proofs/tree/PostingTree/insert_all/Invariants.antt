use Rattle.std.proofs.Common.{◌≡◌, ℕ, ◌+◌, ◌*◌, ◌≤◌, List, ◌++◌, take}
use Rattle.gx_pages.specs.declared.row.RowRef.{RowRef}
use Rattle.gx_pages.specs.Footprints.{KeepsPages, StaysQuiet}
use Rattle.gx_pages.specs.Rows.{IsRising}
use Rattle.gx_posting_tree.specs.PostingTrees.{HoldsRows}
use Rattle.gx_posting_tree.proofs.tree.PostingTree.insert_all.Given as goal

abbrev pub invariant-loop-row : goal.invariant-loop-row
invariant-loop-row g l = record {
  inserted : g.P.Pages.tells → (list : List RowRef) (feet free : List ℕ) → HoldsRows g.P.Pages l.fn.pages l.fn.self.page list feet free → IsRising (list ++ l.rows)
      → (later : List ℕ) × (rest : List ℕ) × HoldsRows g.P.Pages l.pages l.fn.self.page (list ++ take l.row-index l.rows) later rest × KeepsPages g.P.Pages l.fn.pages l.pages feet free later rest;
  same : l.self ≡ l.fn.self;
  grows : g.P.Pages.count l.fn.pages ≤ g.P.Pages.count l.pages;
  by : g.P.Pages.count l.pages ≤ g.P.Pages.count l.fn.pages + 60 * l.row-index;
  heap : g.P.Pages.heap_fetches l.pages ≡ g.P.Pages.heap_fetches l.fn.pages;
  quiet : StaysQuiet g.P.Pages l.fn.pages l.pages;
}
