use Rattle.std.proofs.Common.{◌≡◌, ◌+◌, ◌*◌, ◌++◌, ℕ, suc, List, take}
use Rattle.std.specs.List.{flat_map}
use Rattle.std.specs.List.Sorted.{IsPermutation}
use Rattle.gx_pages.specs.Frees.{IsApart, IsFreeList, KeepsHeader}
use Rattle.gx_pages.specs.Footprints.{ChangesOnly, StaysQuiet}
use Rattle.gx_gist_tree.specs.Trees.{Node, pages_of}
use Rattle.gx_gist_tree.specs.OnPages.{IsRead}
use Rattle.gx_gist_tree.proofs.VisitFacts.{below_pages}
use Rattle.gx_gist_tree.proofs.dropping.+dropping.Given as goal

abbrev pub decreases-drop_items : goal.decreases-drop_items
decreases-drop_items g l = 3 * l.below + 2

abbrev pub decreases-drop_page : goal.decreases-drop_page
decreases-drop_page g l = 3 * l.level

abbrev pub decreases-drop_slot : goal.decreases-drop_slot
decreases-drop_slot g l = 3 * l.below + 1

abbrev pub invariant-drop_items-loop-slot : goal.invariant-drop_items-loop-slot
invariant-drop_items-loop-slot g l = record {
  done : g.P.Pages.tells → (node : Node g.row.C-Key.Denot (suc l.below)) → IsRead g.C.GistClass l.class (g.P.Pages.map l.fn.pages) (g.P.Pages.count l.fn.pages) (suc l.below) node l.slots l.page
      → (free : List ℕ) → IsFreeList (g.P.Pages.map l.fn.pages) (g.P.Pages.count l.fn.pages) free → IsApart (pages_of g.row.C-Key.Denot (suc l.below) node ++ free)
      → (rest : List ℕ) × IsFreeList (g.P.Pages.map l.pages) (g.P.Pages.count l.pages) rest × IsPermutation (flat_map (below_pages g.row.C-Key.Denot l.below) (take l.slot node.1) ++ free) rest
      × ChangesOnly (g.P.Pages.map l.fn.pages) (g.P.Pages.map l.pages) (flat_map (below_pages g.row.C-Key.Denot l.below) (take l.slot node.1));
  header : g.P.Pages.tells → KeepsHeader (g.P.Pages.map l.fn.pages) (g.P.Pages.map l.pages);
  count : g.P.Pages.count l.pages ≡ g.P.Pages.count l.fn.pages;
  other : g.P.Pages.heap_fetches l.pages ≡ g.P.Pages.heap_fetches l.fn.pages;
  quiet : StaysQuiet g.P.Pages l.fn.pages l.pages;
}
