use Rattle.std.proofs.Common.{◌≡◌, ◌≢◌, ◌+◌, ◌*◌, ℕ, suc, take}
use Rattle.std.specs.List.{AllByRecursion, flat_map}
use Rattle.gx_pages.specs.Frees.{IsApart}
use Rattle.gx_pages.specs.Footprints.{ChangesOnly, IsOutside, StaysQuiet}
use Rattle.gx_gist_tree.specs.Trees.{Node, pages_of, stripped}
use Rattle.gx_gist_tree.specs.OnPages.{IsRead, Stands, is_in}
use Rattle.gx_gist_tree.proofs.VisitFacts.{below_pages}
use Rattle.gx_gist_tree.proofs.removal.+strip.Given as goal

abbrev pub decreases-strip_items : goal.decreases-strip_items
decreases-strip_items g l = 3 * l.below + 2

abbrev pub decreases-strip_page : goal.decreases-strip_page
decreases-strip_page g l = 3 * l.level

abbrev pub decreases-strip_slot : goal.decreases-strip_slot
decreases-strip_slot g l = 3 * l.below + 1

abbrev pub invariant-strip_items-loop-slot : goal.invariant-strip_items-loop-slot
invariant-strip_items-loop-slot g l = record {
  done : g.P.Pages.tells → (node : Node g.row.C-Key.Denot (suc l.below)) → IsRead g.C.GistClass l.class (g.P.Pages.map l.fn.pages) (g.P.Pages.count l.fn.pages) (suc l.below) node l.slots l.page
      → IsApart (pages_of g.row.C-Key.Denot (suc l.below) node)
      → AllByRecursion (λ item. Stands (g.P.Pages.map l.pages) (g.C.GistClass.spelling l.class) l.below (stripped (λ e. is_in l.rows e.0.number) l.below item.1)) (take l.slot node.1)
      × ChangesOnly (g.P.Pages.map l.fn.pages) (g.P.Pages.map l.pages) (flat_map (below_pages g.row.C-Key.Denot l.below) (take l.slot node.1));
  seen : g.P.Pages.tells → (node : Node g.row.C-Key.Denot (suc l.below)) → IsRead g.C.GistClass l.class (g.P.Pages.map l.fn.pages) (g.P.Pages.count l.fn.pages) (suc l.below) node l.slots l.page
      → IsApart (pages_of g.row.C-Key.Denot (suc l.below) node)
      → (n : ℕ) → IsOutside n l.fn.seen → n ≢ l.page → IsOutside n (flat_map (below_pages g.row.C-Key.Denot l.below) (take l.slot node.1)) → IsOutside n l.seen;
  zero : g.P.Pages.tells → g.P.Pages.map l.pages 0 ≡ g.P.Pages.map l.fn.pages 0;
  count : g.P.Pages.count l.pages ≡ g.P.Pages.count l.fn.pages;
  other : g.P.Pages.heap_fetches l.pages ≡ g.P.Pages.heap_fetches l.fn.pages;
  quiet : StaysQuiet g.P.Pages l.fn.pages l.pages;
}
