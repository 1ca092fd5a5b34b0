use Rattle.std.proofs.Common.{◌≡◌, ℕ, List}
use Rattle.gx_pages.specs.Footprints.{StaysQuiet}
use Rattle.gx_gin_entry.specs.Listed.{entries_of}
use Rattle.gx_gin_scan.specs.Gins.{HoldsGin}
use Rattle.gx_gin_scan.specs.Lists.{Lists}
use Rattle.gx_gin_scan.proofs.Strips.{Walks}
use Rattle.gx_gin_scan.proofs.removing.strip_entries.Given as goal

abbrev pub invariant-loop-entry : goal.invariant-loop-entry
invariant-loop-entry g l = record {
  stripped : g.P.Pages.tells → (lists : Lists) (feet free : List ℕ) (gin : HoldsGin g.P.Pages l.fn.pages l.root lists feet free) → gin.held.entries ≡ entries_of l.entries
      → Walks g.P.Pages l.fn.pages l.root lists feet free l.entries l.gone l.pages l.entry-index;
  count : g.P.Pages.count l.pages ≡ g.P.Pages.count l.fn.pages;
  heap : g.P.Pages.heap_fetches l.pages ≡ g.P.Pages.heap_fetches l.fn.pages;
  quiet : StaysQuiet g.P.Pages l.fn.pages l.pages;
}
