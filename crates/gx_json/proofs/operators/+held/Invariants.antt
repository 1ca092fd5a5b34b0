use Rattle.std.proofs.Common.{◌↔◌, drop}
use Rattle.gx_json.specs.Tree.{data_of, items_data, members_data}
use Rattle.gx_json.specs.Valid.{AreStored, IsRising, MembersStored}
use Rattle.gx_json.specs.Operators.{Covers, CoverItems, CoverMembers, SomeItem}
use Rattle.gx_json.specs.Steps.{AreMembers}
use Rattle.gx_json.proofs.operators.+held.Given as goal

abbrev pub invariant-are_held-loop-other : goal.invariant-are_held-loop-other
invariant-are_held-loop-other l =
    AreStored (items_data (drop l.other-index l.others))
    × (CoverItems (items_data l.items) (items_data l.others) ↔ CoverItems (items_data l.items) (items_data (drop l.other-index l.others)))

abbrev pub invariant-is_held_by_some-loop-item : goal.invariant-is_held_by_some-loop-item
invariant-is_held_by_some-loop-item l =
    AreStored (items_data (drop l.item-index l.items))
    × (SomeItem (λ v. Covers v (data_of l.other)) (items_data l.items) ↔ SomeItem (λ v. Covers v (data_of l.other)) (items_data (drop l.item-index l.items)))

abbrev pub invariant-pairs_held-loop-other : goal.invariant-pairs_held-loop-other
invariant-pairs_held-loop-other l =
    AreMembers (members_data l.rest) × IsRising (members_data (drop l.other-index l.others)) × MembersStored (members_data (drop l.other-index l.others))
    × (CoverMembers (members_data l.pairs) (members_data l.others) ↔ CoverMembers (members_data l.rest) (members_data (drop l.other-index l.others)))
