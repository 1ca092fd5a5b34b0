use Rattle.std.proofs.Common.{◌≡◌, false, ◌++◌, drop}
use Rattle.serde_json.specs.Written.{items_text, members_text}
use Rattle.gx_json.specs.Tree.{items_data, members_data}
use Rattle.gx_json.proofs.encoding.+encode.Given as goal

abbrev pub invariant-encode_items-loop-item : goal.invariant-encode_items-loop-item
invariant-encode_items-loop-item l =
    l.to ++ items_text l.later (items_data (drop l.item-index l.items)) ≡ l.initial.to ++ items_text false (items_data l.items)

abbrev pub invariant-encode_pairs-loop-pair : goal.invariant-encode_pairs-loop-pair
invariant-encode_pairs-loop-pair l =
    l.to ++ members_text l.later (members_data (drop l.pair-index l.pairs)) ≡ l.initial.to ++ members_text false (members_data l.pairs)
