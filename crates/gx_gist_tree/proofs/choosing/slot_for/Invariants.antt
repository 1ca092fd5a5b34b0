use Rattle.std.proofs.Common.{◌≡◌, ◌<◌, ℕ, List, Some, All, length, map}
use Rattle.gx_gist_tree.specs.OnPages.{inner_item}
use Rattle.gx_gist_tree.proofs.LeastFacts.{IsSoFar}
use Rattle.gx_gist_tree.proofs.choosing.slot_for.Given as goal

abbrev pub invariant-loop-slot : goal.invariant-loop-slot
invariant-loop-slot g l = record {
  below : l.best < length l.slots.items;
  least : (items : List (ℕ × g.row.C-Key.Denot)) → All (λ item. g.C.GistClass.valid_key l.class item.1) items
      → l.slots.items ≡ map (λ item. Some (inner_item (g.C.GistClass.spelling l.class) item.0 item.1)) items
      → IsSoFar (map (λ item. g.C.GistClass.growth l.class item.1 l.key) items) l.best l.least l.slot;
}
