use Rattle.std.proofs.Common.{◌≡◌, ◌++◌, drop}
use Rattle.gx_json.specs.Tree.{items_data, members_data}
use Rattle.gx_gin_documents.specs.Steps.{hash_elements, hash_members}
use Rattle.gx_gin_documents.proofs.paths.+paths.Given as goal

abbrev pub invariant-push_elements-loop-element : goal.invariant-push_elements-loop-element
invariant-push_elements-loop-element l =
    l.to ++ hash_elements l.above (items_data (drop l.element-index l.elements)) ≡ l.initial.to ++ hash_elements l.above (items_data l.elements)

abbrev pub invariant-push_members-loop-member : goal.invariant-push_members-loop-member
invariant-push_members-loop-member l =
    l.to ++ hash_members l.above (members_data (drop l.member-index l.members)) ≡ l.initial.to ++ hash_members l.above (members_data l.members)
