use Rattle.std.proofs.Common.{◌≡◌, ◌≢◌, ◌++◌, ◌+◌, ◌*◌, ◌≤◌, ℕ, suc, map, take}
use Rattle.std.specs.Prelude.{sum_by}
use Rattle.std.specs.List.{flat_map}
use Rattle.gx_pages.specs.Footprints.{IsOutside, StaysQuiet}
use Rattle.gx_gist_tree.specs.Trees.{Node}
use Rattle.gx_gist_tree.specs.OnPages.{IsRead}
use Rattle.gx_gist_tree.proofs.VisitFacts.{found_in, visits_in, below_pages}
use Rattle.gx_gist_tree.proofs.search.+visit.Given as goal

abbrev pub decreases-visit_items : goal.decreases-visit_items
decreases-visit_items g l = 3 * l.below + 2

abbrev pub decreases-visit_page : goal.decreases-visit_page
decreases-visit_page g l = 3 * l.level

abbrev pub decreases-visit_slot : goal.decreases-visit_slot
decreases-visit_slot g l = 3 * l.below + 1

abbrev pub invariant-visit_items-loop-slot : goal.invariant-visit_items-loop-slot
invariant-visit_items-loop-slot g l = record {
  rows : g.P.Pages.tells → (node : Node g.row.C-Key.Denot (suc l.below)) → IsRead g.C.GistClass l.class (g.P.Pages.map l.fn.pages) (g.P.Pages.count l.fn.pages) (suc l.below) node l.slots l.page
      → l.so_far.rows.items ≡ l.fn.so_far.rows.items
      ++ map (λ e. e.0) (flat_map (found_in (λ k. g.C.GistClass.leaf_test l.class k l.query) (λ k. g.C.GistClass.inner_test l.class k l.query) l.below) (take l.slot node.1));
  seen : g.P.Pages.tells → (node : Node g.row.C-Key.Denot (suc l.below)) → IsRead g.C.GistClass l.class (g.P.Pages.map l.fn.pages) (g.P.Pages.count l.fn.pages) (suc l.below) node l.slots l.page
      → (n : ℕ) → IsOutside n l.fn.so_far.seen → n ≢ l.page → IsOutside n (flat_map (below_pages g.row.C-Key.Denot l.below) (take l.slot node.1)) → IsOutside n l.so_far.seen;
  visits : g.P.Pages.tells → (node : Node g.row.C-Key.Denot (suc l.below)) → IsRead g.C.GistClass l.class (g.P.Pages.map l.fn.pages) (g.P.Pages.count l.fn.pages) (suc l.below) node l.slots l.page
      → g.P.Pages.fetches l.pages ≤ g.P.Pages.fetches l.fn.pages + sum_by (visits_in (λ k. g.C.GistClass.inner_test l.class k l.query) l.below) (take l.slot node.1);
  map : g.P.Pages.map l.pages ≡ g.P.Pages.map l.fn.pages;
  count : g.P.Pages.count l.pages ≡ g.P.Pages.count l.fn.pages;
  other : g.P.Pages.heap_fetches l.pages ≡ g.P.Pages.heap_fetches l.fn.pages;
  quiet : StaysQuiet g.P.Pages l.fn.pages l.pages;
}
