use Rattle.std.proofs.Common.{◌≡◌, ◌≢◌, ℕ, List}
use Rattle.gx_pages.specs.Footprints.{StaysQuiet}
use Rattle.gx_tree.specs.Dropping.{Gives}
use Rattle.gx_tree.proofs.Dropped.{Dropping}
use Rattle.gx_tree.proofs.drops.give_pages.Given as goal

abbrev pub invariant-loop-page : goal.invariant-loop-page
invariant-loop-page g l = record {
  gives : g.P.Pages.tells → (free : List ℕ) → Gives g.P.Pages l.fn.pages l.kind l.list free → Dropping g.P.Pages l.fn.pages l.pages l.list free l.page-index;
  count : g.P.Pages.count l.pages ≡ g.P.Pages.count l.fn.pages;
  heap : l.kind ≢ 2 → g.P.Pages.heap_fetches l.pages ≡ g.P.Pages.heap_fetches l.fn.pages;
  quiet : StaysQuiet g.P.Pages l.fn.pages l.pages;
}
