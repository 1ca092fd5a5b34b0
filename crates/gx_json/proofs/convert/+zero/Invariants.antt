use Rattle.std.proofs.Common.{◌≡◌, drop}
use Rattle.serde_json.specs.View.{items_view, members_view}
use Rattle.gx_json.specs.Valid.{items_zero, members_zero}
use Rattle.gx_json.proofs.convert.+zero.Given as goal

abbrev pub invariant-items_zero-loop-item : goal.invariant-items_zero-loop-item
invariant-items_zero-loop-item l =
    items_zero (items_view l.item-items) ≡ items_zero (items_view (drop l.item-index l.item-items))

abbrev pub invariant-members_zero-loop-key : goal.invariant-members_zero-loop-key
invariant-members_zero-loop-key l =
    members_zero (members_view l.members.entries) ≡ members_zero (members_view l.key-iterator)
