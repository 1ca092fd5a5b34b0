use Rattle.std.proofs.Common.{◌≡◌, false, ◌++◌, ◌*◌, suc, drop, map}
use Rattle.serde_json.specs.Data.{depth, items_depth, members_depth}
use Rattle.gx_json.specs.Tree.{data_of, items_data, members_data}
use Rattle.gx_json.specs.Print.{printed_items, entries_of, entries_text}
use Rattle.gx_json.proofs.print.+print.Given as goal

abbrev pub decreases-print_value : goal.decreases-print_value
decreases-print_value l = 2 * depth (data_of l.value.now)

abbrev pub decreases-print_items : goal.decreases-print_items
decreases-print_items l = suc (2 * items_depth (items_data l.items.now))

abbrev pub decreases-print_pairs : goal.decreases-print_pairs
decreases-print_pairs l = suc (2 * members_depth (members_data l.pairs.now))

abbrev pub invariant-print_items-loop-item : goal.invariant-print_items-loop-item
invariant-print_items-loop-item l =
    l.to ++ printed_items l.later (items_data (drop l.item-index l.items)) ≡ l.initial.to ++ printed_items false (items_data l.items)

abbrev pub invariant-print_pairs-loop-pair : goal.invariant-print_pairs-loop-pair
invariant-print_pairs-loop-pair l =
    l.to ++ entries_text l.later (entries_of (members_data (map (λ r. r.now) (drop l.pair-index l.pair-items)))) ≡ l.initial.to ++ entries_text false (entries_of (members_data (map (λ r. r.now) l.pair-items)))
