use Rattle.std.proofs.Common.{◌≡◌, drop}
use Rattle.serde_json.specs.View.{items_view, members_view}
use Rattle.gx_json.specs.Valid.{items_whole, members_whole}
use Rattle.gx_json.proofs.convert.+whole.Given as goal

abbrev pub invariant-items_whole-loop-item : goal.invariant-items_whole-loop-item
invariant-items_whole-loop-item l =
    items_whole (items_view l.item-items) ≡ items_whole (items_view (drop l.item-index l.item-items))

abbrev pub invariant-members_whole-loop-member : goal.invariant-members_whole-loop-member
invariant-members_whole-loop-member l =
    members_whole (members_view l.members.entries) ≡ members_whole (members_view l.member-iterator)
