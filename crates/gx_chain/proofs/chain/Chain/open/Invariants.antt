use Rattle.std.proofs.Common.{◌≡◌, ◌≢◌, ◌≤◌, ◌+◌, ◌⊎◌}
use Rattle.gx_pages.specs.Footprints.{StaysQuiet}
use Rattle.gx_chain.proofs.Walks.{Walks}
use Rattle.gx_chain.proofs.chain.Chain.open.Given as goal

abbrev pub invariant-loop-passed : goal.invariant-loop-passed
invariant-loop-passed g l = record {
  walks : g.P.Pages.tells → Walks (g.P.Pages.map l.fn.pages) (g.P.Pages.count l.fn.pages) l.kind l.first l.page l.entries.items l.feet.items l.trail.mark l.passed;
  map : g.P.Pages.map l.pages ≡ g.P.Pages.map l.fn.pages;
  count : g.P.Pages.count l.pages ≡ g.P.Pages.count l.fn.pages;
  other : l.kind ≢ 2 → g.P.Pages.heap_fetches l.pages ≡ g.P.Pages.heap_fetches l.fn.pages;
  fetches : g.P.Pages.fetches l.pages ≤ g.P.Pages.fetches l.fn.pages + l.passed;
  goes : (l.passed ≡ 0) ⊎ (l.page ≢ 0);
  quiet : StaysQuiet g.P.Pages l.fn.pages l.pages;
}
