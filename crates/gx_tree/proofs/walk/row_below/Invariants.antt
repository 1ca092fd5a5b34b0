use Rattle.std.proofs.Common.{◌≡◌, ◌≢◌, ◌+◌, ◌≤◌, ◌++◌, ℕ, suc, List, length, map, take}
use Rattle.gx_pages.specs.Footprints.{StaysQuiet}
use Rattle.gx_tree.specs.Trees.{Node, Row, children, page_of}
use Rattle.gx_tree.proofs.walk.row_below.Given as goal

abbrev pub invariant-loop-page : goal.invariant-loop-page
invariant-loop-page g l = record {
  next : g.P.Pages.tells → (nodes : List (Node (suc l.level))) → Row (g.P.Pages.map l.fn.pages) (g.P.Pages.count l.fn.pages) l.kind l.fn.uppers.items l.row (suc l.level) nodes
      → l.next.items ≡ map (page_of l.level) (children l.level (take l.page-index nodes));
  uppers : l.uppers.items ≡ l.fn.uppers.items ++ take l.page-index l.row;
  map : g.P.Pages.map l.pages ≡ g.P.Pages.map l.fn.pages;
  count : g.P.Pages.count l.pages ≡ g.P.Pages.count l.fn.pages;
  heap : l.kind ≢ 2 → g.P.Pages.heap_fetches l.pages ≡ g.P.Pages.heap_fetches l.fn.pages;
  fetches : g.P.Pages.fetches l.pages + length l.fn.uppers.items ≤ g.P.Pages.fetches l.fn.pages + length l.uppers.items;
  quiet : StaysQuiet g.P.Pages l.fn.pages l.pages;
}
