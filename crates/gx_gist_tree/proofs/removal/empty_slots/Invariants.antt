use Rattle.std.proofs.Common.{◌≡◌, ℕ, List, Option, All, false}
use Rattle.std.specs.Prelude.{IfSome}
use Rattle.gx_gist_tree.specs.Trees.{Entry}
use Rattle.gx_gist_tree.specs.OnPages.{FitsFields, is_in}
use Rattle.gx_gist_tree.proofs.StripFacts.{half, raw_slots}
use Rattle.gx_gist_tree.proofs.removal.empty_slots.Given as goal

abbrev pub invariant-loop-slot : goal.invariant-loop-slot
invariant-loop-slot l = record {
  items : (entries : List (Option (Entry (List ℕ)))) → All (λ slot. IfSome slot (λ e. FitsFields e.0)) entries → l.fn.slots.items ≡ raw_slots entries
      → l.slots.items ≡ half (λ e. is_in l.rows e.0.number) entries l.slot;
  rest : l.slots ≡ record l.fn.slots { items = l.slots.items };
  same : l.changed ≡ false → l.slots ≡ l.fn.slots;
}
