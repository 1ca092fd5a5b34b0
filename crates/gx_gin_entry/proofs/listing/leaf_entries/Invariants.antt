use Rattle.std.proofs.Common.{◌≡◌, ◌+◌, ◌≤◌, ℕ, List, map, drop}
use Rattle.std.specs.List.{AllByRecursion}
use Rattle.gx_pages.specs.Footprints.{StaysQuiet}
use Rattle.gx_tree.specs.Trees.{IsOn, Leaf, items_of, numbers}
use Rattle.gx_gin_entry.specs.EntryTrees.{AreRising, Entry, IsEntry, entry_bytes}
use Rattle.gx_gin_entry.specs.Listed.{entries_of}
use Rattle.gx_gin_entry.proofs.AllOf.{Lists}
use Rattle.gx_gin_entry.proofs.listing.leaf_entries.Given as goal

abbrev pub invariant-loop-page : goal.invariant-loop-page
invariant-loop-page g l = record {
  lists : g.P.Pages.tells → (row : List Leaf) (entries : List Entry) → l.list ≡ numbers row → AllByRecursion (IsOn (g.P.Pages.map l.fn.pages) 5 0) row
      → items_of row ≡ map entry_bytes entries → AllByRecursion IsEntry entries → AreRising entries → Lists (entries_of l.fn.to.items) (entries_of l.to.items) entries (items_of (drop l.page-index row));
  map : g.P.Pages.map l.pages ≡ g.P.Pages.map l.fn.pages;
  count : g.P.Pages.count l.pages ≡ g.P.Pages.count l.fn.pages;
  heap : g.P.Pages.heap_fetches l.pages ≡ g.P.Pages.heap_fetches l.fn.pages;
  fetches : g.P.Pages.fetches l.pages ≤ g.P.Pages.fetches l.fn.pages + l.page-index;
  quiet : StaysQuiet g.P.Pages l.fn.pages l.pages;
}
