use Rattle.std.proofs.Common.{◌≡◌, ◌+◌, ◌≤◌, ℕ, List}
use Rattle.gx_pages.specs.Footprints.{StaysQuiet}
use Rattle.gx_chain.specs.Chains.{Link, HoldsBeside}
use Rattle.gx_chain.proofs.Drops.{Drops}
use Rattle.gx_chain.proofs.chain.Chain.drop_all.Given as goal

abbrev pub invariant-loop : goal.invariant-loop
invariant-loop g l = record {
  drops : g.P.Pages.tells → (links : List Link) (free : List ℕ) → HoldsBeside g.P.Pages l.fn.pages l.kind l.fn.self links free → Drops g.P.Pages l.fn.pages l.pages l.kind links free l.page l.counter;
  count : g.P.Pages.count l.pages ≡ g.P.Pages.count l.fn.pages;
  ticks : g.P.Pages.heap_fetches l.pages + l.fn.steps ≤ g.P.Pages.heap_fetches l.fn.pages + l.steps;
  most : l.steps ≡ l.fn.steps + l.counter;
  fetches : g.P.Pages.fetches l.pages ≤ g.P.Pages.fetches l.fn.pages + l.counter;
  quiet : StaysQuiet g.P.Pages l.fn.pages l.pages;
}
