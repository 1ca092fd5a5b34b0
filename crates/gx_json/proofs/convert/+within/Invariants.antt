use Rattle.std.proofs.Common.{◌≤◌, ◌↔◌, drop}
use Rattle.serde_json.specs.Data.{items_depth, members_depth}
use Rattle.serde_json.specs.View.{items_view, members_view}
use Rattle.gx_json.proofs.convert.+within.Given as goal

abbrev pub invariant-items_within-loop-item : goal.invariant-items_within-loop-item
invariant-items_within-loop-item l =
    (items_depth (items_view l.item-items) ≤ l.room) ↔ (items_depth (items_view (drop l.item-index l.item-items)) ≤ l.room)

abbrev pub invariant-members_within-loop-member : goal.invariant-members_within-loop-member
invariant-members_within-loop-member l =
    (members_depth (members_view l.members.entries) ≤ l.room) ↔ (members_depth (members_view l.member-iterator) ≤ l.room)
