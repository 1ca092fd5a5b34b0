use Rattle.std.proofs.Common.{◌≡◌, ◌+◌, ◌≤◌, List, drop}
use Rattle.std.specs.List.{AllByRecursion}
use Rattle.gx_pages.specs.declared.row.RowRef.{RowRef}
use Rattle.gx_pages.specs.Footprints.{StaysQuiet}
use Rattle.gx_tree.specs.Trees.{IsOn, Leaf, items_of, numbers}
use Rattle.gx_posting_tree.specs.PostingTrees.{AreSpelled}
use Rattle.gx_posting_tree.proofs.Read.{Reads}
use Rattle.gx_posting_tree.proofs.reading.leaf_rows.Given as goal

abbrev pub invariant-loop-page : goal.invariant-loop-page
invariant-loop-page g l = record {
  reads : g.P.Pages.tells → (leaves : List Leaf) (rows : List RowRef) → l.list ≡ numbers leaves → AllByRecursion (IsOn (g.P.Pages.map l.fn.pages) 6 0) leaves
      → AreSpelled (items_of leaves) rows → Reads l.fn.to l.to rows (items_of (drop l.page-index leaves));
  map : g.P.Pages.map l.pages ≡ g.P.Pages.map l.fn.pages;
  count : g.P.Pages.count l.pages ≡ g.P.Pages.count l.fn.pages;
  heap : g.P.Pages.heap_fetches l.pages ≡ g.P.Pages.heap_fetches l.fn.pages;
  fetches : g.P.Pages.fetches l.pages ≤ g.P.Pages.fetches l.fn.pages + l.page-index;
  quiet : StaysQuiet g.P.Pages l.fn.pages l.pages;
}
