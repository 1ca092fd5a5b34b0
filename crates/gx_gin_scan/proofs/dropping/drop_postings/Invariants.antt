use Rattle.std.proofs.Common.{◌≡◌, ℕ, List, ◌++◌}
use Rattle.gx_pages.specs.Footprints.{StaysQuiet}
use Rattle.gx_pages.specs.Frees.{IsApart, IsFreeList}
use Rattle.gx_gin_entry.specs.Listed.{entries_of}
use Rattle.gx_gin_scan.specs.Gins.{AreHeld}
use Rattle.gx_gin_scan.specs.Lists.{Lists}
use Rattle.gx_gin_scan.proofs.Frames.{Drops}
use Rattle.gx_gin_scan.proofs.dropping.drop_postings.Given as goal

abbrev pub invariant-loop-entry : goal.invariant-loop-entry
invariant-loop-entry g l = record {
  dropped : g.P.Pages.tells → (lists : Lists) (feet free : List ℕ) → AreHeld (g.P.Pages.map l.fn.pages) (g.P.Pages.count l.fn.pages) (entries_of l.entries) lists feet → IsFreeList (g.P.Pages.map l.fn.pages) (g.P.Pages.count l.fn.pages) free → IsApart (feet ++ free)
      → Drops g.P.Pages l.fn.pages l.entries lists feet free l.pages l.entry-index;
  count : g.P.Pages.count l.pages ≡ g.P.Pages.count l.fn.pages;
  heap : g.P.Pages.heap_fetches l.pages ≡ g.P.Pages.heap_fetches l.fn.pages;
  quiet : StaysQuiet g.P.Pages l.fn.pages l.pages;
}
