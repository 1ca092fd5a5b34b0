use Rattle.std.proofs.Common.{◌≡◌, ◌↔◌, drop}
use Rattle.gx_json.specs.Tree.{data_of, items_data}
use Rattle.gx_json.specs.Operators.{IsScalar, SomeItem}
use Rattle.gx_json.proofs.operators.has_equal.Given as goal

abbrev pub invariant-loop-item : goal.invariant-loop-item
invariant-loop-item l =
    (IsScalar (data_of l.other) × SomeItem (λ d. d ≡ data_of l.other) (items_data l.items))
    ↔ (IsScalar (data_of l.other) × SomeItem (λ d. d ≡ data_of l.other) (items_data (drop l.item-index l.items)))
