use Rattle.std.proofs.Common.{◌≤◌, ◌++◌, ap, ◌∙◌, subst, sym, arith, IsPermutation, map}
use Rattle.serde_json.specs.Data.{Data, array, object, depth, items_depth}
use Rattle.gx_json.specs.declared.document.Json.{Json}
use Rattle.gx_json.proofs.TreeLemmas.{data_at_List, data_at_Object, item_depth, ordered_depth}
use Rattle.gx_json.specs.Print.{printed}
use Rattle.gx_json.specs.Tree.{data_of, items_data, members_data}
use Rattle.gx_json.proofs.print.+print.Goals as goal

pub print_value-returns-in_ok-print_pairs-in-Object : goal.print_value-returns-in_ok-print_pairs-in-Object
print_value-returns-in_ok-print_pairs-in-Object t c =
    let tree = data_at_Object c.args.value.now c.in-Object.pairs c.in-Object.is in
    c.in_ok-print_pairs-in-Object.ensures
    ∙ ap (λ (d : Data). c.args.to.now ++ printed d) (ap (λ ps. object (members_data ps)) c.deref-in-Object.ensures.value ∙ sym tree)

pub print_items-print_value-requires : goal.print_items-print_value-requires
print_items-print_value-requires t c =
    let item = c.item-item.result in
    let there = item_depth c.args.items.now c.loop-item.item-index item c.loop-item-test.true in
    let low = subst (λ (j : Json). depth (data_of j) ≤ items_depth (items_data c.args.items.now)) (sym c.item-item.is) there in
    (omega (arith, low, c.decreases), tt)

pub print_pairs-print_value-requires : goal.print_pairs-print_value-requires
print_pairs-print_value-requires t c =
    let ps = c.args.pairs.now in
    let rs = c.deref-pair-items.result.now in
    let same : IsPermutation ps (map (λ x. x.now) rs) = subst (λ xs. IsPermutation ps (map (λ x. x.now) xs)) (sym c.deref-pair-items.ensures.value) c.in_ok-order.ensures.same in
    let low = ordered_depth ps rs c.loop-pair.pair-index c.pair-item.result same c.loop-pair-test.true c.pair-item.is in
    (omega (arith, low, c.decreases), tt)

pub print_value-print_items-requires : goal.print_value-print_items-requires
print_value-print_items-requires t c =
    let tree = data_at_List c.args.value.now c.in-List.list c.in-List.is in
    let depths = ap depth (tree ∙ ap (λ js. array (items_data js)) (sym c.deref.ensures.value)) in
    (omega (arith, depths, c.decreases), tt)

pub print_value-print_pairs-requires : goal.print_value-print_pairs-requires
print_value-print_pairs-requires t c =
    let tree = data_at_Object c.args.value.now c.in-Object.pairs c.in-Object.is in
    let depths = ap depth (tree ∙ ap (λ ps. object (members_data ps)) (sym c.deref-in-Object.ensures.value)) in
    (omega (arith, depths, c.decreases), tt)
