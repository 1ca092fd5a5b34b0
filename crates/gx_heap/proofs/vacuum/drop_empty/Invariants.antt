use Rattle.std.proofs.Common.{◌≡◌, ◌+◌, ◌≤◌, ℕ, List}
use Rattle.gx_pages.specs.Footprints.{StaysQuiet}
use Rattle.gx_chain.specs.Chains.{Link, HoldsBeside}
use Rattle.gx_heap.proofs.Sweeps.{Sweeps}
use Rattle.gx_heap.proofs.vacuum.drop_empty.Given as goal

abbrev pub invariant-loop : goal.invariant-loop
invariant-loop g l = record {
  sweeps : g.P.Pages.tells → (links : List Link) (free : List ℕ) → HoldsBeside g.P.Pages l.fn.pages 2 l.fn.chain links free
      → Sweeps g.P.Pages l.fn.pages l.pages l.chain links free l.page l.before l.trail.mark l.counter;
  last : l.chain.last ≡ l.fn.chain.last;
  bound : l.chain.pages ≡ l.fn.chain.pages;
  count : g.P.Pages.count l.pages ≡ g.P.Pages.count l.fn.pages;
  ticks : g.P.Pages.heap_fetches l.pages + l.fn.steps ≤ g.P.Pages.heap_fetches l.fn.pages + l.steps;
  most : l.steps ≤ l.fn.steps + (l.counter + l.counter);
  fetches : g.P.Pages.fetches l.pages ≤ g.P.Pages.fetches l.fn.pages + (l.counter + l.counter);
  quiet : StaysQuiet g.P.Pages l.fn.pages l.pages;
}
