use Rattle.std.proofs.Common.{◌≡◌, ℕ, List, take}
use Rattle.gx_pages.specs.Footprints.{StaysQuiet}
use Rattle.gx_gin_entry.specs.Listed.{entries_of}
use Rattle.gx_gin_scan.specs.Gins.{AreHeld}
use Rattle.gx_gin_scan.specs.Lists.{Lists}
use Rattle.gx_gin_scan.specs.Searches.{all_rows}
use Rattle.gx_gin_scan.proofs.looking.rows_of_entries.Given as goal

abbrev pub invariant-loop-entry : goal.invariant-loop-entry
invariant-loop-entry g l = record {
  rows : g.P.Pages.tells → (lists : Lists) (feet : List ℕ) → AreHeld (g.P.Pages.map l.fn.pages) (g.P.Pages.count l.fn.pages) (entries_of l.entries) lists feet → l.rows.items ≡ all_rows (take l.entry-index lists);
  map : g.P.Pages.map l.pages ≡ g.P.Pages.map l.fn.pages;
  count : g.P.Pages.count l.pages ≡ g.P.Pages.count l.fn.pages;
  heap : g.P.Pages.heap_fetches l.pages ≡ g.P.Pages.heap_fetches l.fn.pages;
  quiet : StaysQuiet g.P.Pages l.fn.pages l.pages;
}
