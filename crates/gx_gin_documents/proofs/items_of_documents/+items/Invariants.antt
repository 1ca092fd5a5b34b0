use Rattle.std.proofs.Common.{◌≡◌, ◌++◌, drop}
use Rattle.gx_json.specs.Tree.{items_data, members_data}
use Rattle.gx_gin_documents.specs.Steps.{short_elements, short_members}
use Rattle.gx_gin_documents.proofs.items_of_documents.+items.Given as goal

abbrev pub invariant-push_elements-loop-element : goal.invariant-push_elements-loop-element
invariant-push_elements-loop-element l =
    l.to ++ short_elements (items_data (drop l.element-index l.elements)) ≡ l.initial.to ++ short_elements (items_data l.elements)

abbrev pub invariant-push_members-loop-member : goal.invariant-push_members-loop-member
invariant-push_members-loop-member l =
    l.to ++ short_members (members_data (drop l.member-index l.members)) ≡ l.initial.to ++ short_members (members_data l.members)
