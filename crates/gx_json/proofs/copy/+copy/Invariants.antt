use Rattle.std.proofs.Common.{◌≡◌, List, ℕ, map, take}
use Rattle.serde_json.specs.Data.{Data}
use Rattle.gx_json.specs.declared.document.Json.{Json}
use Rattle.gx_json.specs.Tree.{data_of}
use Rattle.gx_json.proofs.copy.+copy.Given as goal

abbrev pub invariant-copied_items-loop-item : goal.invariant-copied_items-loop-item
invariant-copied_items-loop-item l = map data_of l.copies.items ≡ map data_of (take l.item-index l.items)

abbrev pub invariant-copied_pairs-loop-pair : goal.invariant-copied_pairs-loop-pair
invariant-copied_pairs-loop-pair l =
    map {B = List ℕ × Data} (λ (p : List ℕ × Json). (p.0, data_of p.1)) l.copies.items ≡ map {B = List ℕ × Data} (λ (p : List ℕ × Json). (p.0, data_of p.1)) (take l.pair-index l.pairs)
