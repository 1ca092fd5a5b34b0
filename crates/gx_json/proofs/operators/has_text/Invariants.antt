use Rattle.std.proofs.Common.{◌≡◌, ◌↔◌, drop}
use Rattle.serde_json.specs.Data.{string}
use Rattle.gx_json.specs.Tree.{items_data}
use Rattle.gx_json.specs.Operators.{SomeItem}
use Rattle.gx_json.proofs.operators.has_text.Given as goal

abbrev pub invariant-loop-item : goal.invariant-loop-item
invariant-loop-item l =
    SomeItem (λ d. d ≡ string l.key) (items_data l.items) ↔ SomeItem (λ d. d ≡ string l.key) (items_data (drop l.item-index l.items))
