use Rattle.std.proofs.Common.{◌≡◌, List, take}
use Rattle.std.specs.List.{AllByRecursion}
use Rattle.gx_pages.specs.Footprints.{StaysQuiet}
use Rattle.gx_pages.specs.Frees.{IsApart}
use Rattle.gx_tree.specs.Trees.{IsOn, Leaf, numbers}
use Rattle.gx_posting_tree.specs.Removing.{LostRows}
use Rattle.gx_posting_tree.proofs.removing.strip_pages.Given as goal

abbrev pub invariant-loop-page : goal.invariant-loop-page
invariant-loop-page g l = record {
  lost : g.P.Pages.tells → (leaves : List Leaf) → l.list ≡ numbers leaves → IsApart l.list → AllByRecursion (IsOn (g.P.Pages.map l.fn.pages) 6 0) leaves
      → LostRows l.gone (g.P.Pages.map l.fn.pages) (g.P.Pages.map l.pages) (take l.page-index l.list) (take l.page-index leaves) l.empty;
  count : g.P.Pages.count l.pages ≡ g.P.Pages.count l.fn.pages;
  heap : g.P.Pages.heap_fetches l.pages ≡ g.P.Pages.heap_fetches l.fn.pages;
  quiet : StaysQuiet g.P.Pages l.fn.pages l.pages;
}
