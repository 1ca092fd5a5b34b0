use Rattle.std.proofs.Common.{◌≡◌, ◌+◌, ◌≤◌, ℕ, List, length, map, take}
use Rattle.gx_pages.specs.Footprints.{StaysQuiet}
use Rattle.gx_gin_scan.specs.Gins.{HoldsLists}
use Rattle.gx_gin_scan.specs.Lists.{Lists}
use Rattle.gx_gin_scan.specs.Searches.{item_key, lists_of, pages_read}
use Rattle.gx_gin_scan.proofs.searching.rows_of_items.Given as goal

abbrev pub invariant-loop-at : goal.invariant-loop-at
invariant-loop-at g l = record {
  lists : g.P.Pages.tells → (lists : Lists) (feet : List ℕ) → HoldsLists (g.P.Pages.map l.fn.pages) (g.P.Pages.count l.fn.pages) l.root lists feet → l.found.items ≡ lists_of lists (take l.at l.items);
  length : length l.found.items ≡ l.at;
  fetches : g.P.Pages.tells → (lists : Lists) (feet : List ℕ) (held : HoldsLists (g.P.Pages.map l.fn.pages) (g.P.Pages.count l.fn.pages) l.root lists feet)
      → g.P.Pages.fetches l.pages ≤ g.P.Pages.fetches l.fn.pages + pages_read (g.P.Pages.map l.fn.pages) (g.P.Pages.count l.fn.pages) l.root lists feet held (map item_key (take l.at l.items));
  map : g.P.Pages.map l.pages ≡ g.P.Pages.map l.fn.pages;
  count : g.P.Pages.count l.pages ≡ g.P.Pages.count l.fn.pages;
  heap : g.P.Pages.heap_fetches l.pages ≡ g.P.Pages.heap_fetches l.fn.pages;
  quiet : StaysQuiet g.P.Pages l.fn.pages l.pages;
}
