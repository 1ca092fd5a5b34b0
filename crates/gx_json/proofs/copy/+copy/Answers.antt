use Rattle.std.proofs.Common.{◌≡◌, List, ℕ, sym, ap, ap₂, ◌∙◌}
use Rattle.serde_json.specs.Data.{Data, array, object}
use Rattle.gx_json.specs.declared.document.Json.{Json}
use Rattle.gx_json.specs.Tree.{data_of, items_data, members_data}
use Rattle.gx_json.proofs.TreeLemmas.{data_of-List, data_of-Object, data_at_List, data_at_Object}
use Rattle.gx_json.proofs.ConvertLemmas.{mapped_more}
use Rattle.gx_json.proofs.copy.+copy.Goals as goal

pub copied-returns-in_ok-copied_items-in-List : goal.copied-returns-in_ok-copied_items-in-List
copied-returns-in_ok-copied_items-in-List t c =
    let made = c.in_ok-copied_items-in-List in
    data_of-List made.field-0 ∙ ap array (made.ensures ∙ ap items_data c.deref.ensures.value) ∙ sym (data_at_List c.args.value.now c.in-List.list c.in-List.is)

pub copied-returns-in_ok-copied_pairs-in-Object : goal.copied-returns-in_ok-copied_pairs-in-Object
copied-returns-in_ok-copied_pairs-in-Object t c =
    let made = c.in_ok-copied_pairs-in-Object in
    data_of-Object made.field-0 ∙ ap object (made.ensures ∙ ap members_data c.deref-in-Object.ensures.value) ∙ sym (data_at_Object c.args.value.now c.in-Object.pairs c.in-Object.is)

pub copied_items-loop-item-preserved : goal.copied_items-loop-item-preserved
copied_items-loop-item-preserved t c =
    let l = c.loop-item in
    mapped_more data_of data_of l.copies.items c.push.new.self.items c.args.items.now l.item-index c.in_ok-copied.field-0 c.item-item.result c.loop-item-test.true c.item-item.is l.invariant c.in_ok-copied.ensures c.in_ok-push.ensures.items

pub copied_pairs-loop-pair-preserved : goal.copied_pairs-loop-pair-preserved
copied_pairs-loop-pair-preserved t c =
    let l = c.loop-pair in
    let P : List ℕ × Json → List ℕ × Data = λ p. (p.0, data_of p.1) in
    let made : List ℕ × Json = (c.in_ok-key.key, c.in_ok-copied.field-0) in
    let p = c.pair-item.result in
    let same : P made ≡ P p = ap₂ (λ (k : List ℕ) (d : Data). (k, d)) c.in_ok-key.ensures c.in_ok-copied.ensures in
    mapped_more P P l.copies.items c.push.new.self.items c.args.pairs.now l.pair-index made p c.loop-pair-test.true c.pair-item.is l.invariant same c.in_ok-push.ensures.items
