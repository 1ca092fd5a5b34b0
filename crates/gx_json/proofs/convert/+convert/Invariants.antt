use Rattle.std.proofs.Common.{◌≡◌, true, List, ◌++◌, take, drop, map}
use Rattle.serde_json.specs.View.{view, items_view, members_view}
use Rattle.serde_json.proofs.Views.{Entry}
use Rattle.gx_json.specs.Tree.{data_of, items_data, members_data}
use Rattle.gx_json.specs.Valid.{items_whole, members_whole, AreStored, MembersStored}
use Rattle.gx_json.proofs.convert.+convert.Given as goal

abbrev pub invariant-convert_items-loop-item : goal.invariant-convert_items-loop-item
invariant-convert_items-loop-item l =
    (map data_of l.copies.items ≡ map view (take l.item-index l.item-items))
    × (items_whole (items_view (drop l.item-index l.item-items)) ≡ true) × AreStored (items_data l.copies.items)

abbrev pub invariant-convert_members-loop-key : goal.invariant-convert_members-loop-key
invariant-convert_members-loop-key l =
    (done : List Entry) × (l.members.entries ≡ done ++ l.key-iterator) × (members_data l.copies.items ≡ members_view done)
    × (members_whole (members_view l.key-iterator) ≡ true) × MembersStored (members_data l.copies.items)
