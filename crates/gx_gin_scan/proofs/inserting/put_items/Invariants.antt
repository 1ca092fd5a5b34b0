use Rattle.std.proofs.Common.{◌≡◌, ℕ, ◌+◌, ◌*◌, ◌≤◌, List}
use Rattle.gx_pages.specs.Footprints.{StaysQuiet}
use Rattle.gx_gin_scan.specs.Gins.{HoldsGin}
use Rattle.gx_gin_scan.specs.Lists.{IsBehind, Lists}
use Rattle.gx_gin_scan.proofs.Inserts.{SoFar}
use Rattle.gx_gin_scan.proofs.inserting.put_items.Given as goal

abbrev pub invariant-loop-at : goal.invariant-loop-at
invariant-loop-at g l = record {
  put : g.P.Pages.tells → (lists : Lists) (feet free : List ℕ) → HoldsGin g.P.Pages l.fn.pages l.root lists feet free → IsBehind lists l.row → SoFar g.P.Pages l.fn.pages l.pages l.root lists feet free l.row l.items l.at;
  grows : g.P.Pages.count l.fn.pages ≤ g.P.Pages.count l.pages;
  by : g.P.Pages.count l.pages ≤ g.P.Pages.count l.fn.pages + 61 * l.at;
  heap : g.P.Pages.heap_fetches l.pages ≡ g.P.Pages.heap_fetches l.fn.pages;
  quiet : StaysQuiet g.P.Pages l.fn.pages l.pages;
}
