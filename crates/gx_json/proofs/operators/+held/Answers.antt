use Rattle.std.proofs.Common.{◌+◌, List, ℕ, drop, sym, ap, ◌∙◌, subst}
use Rattle.gx_json.specs.Tree.{data_of, items_data, members_data}
use Rattle.serde_json.specs.Data.{object, member}
use Rattle.gx_json.proofs.TreeLemmas.{data_at_Object}
use Rattle.gx_json.specs.Valid.{AreStored, IsRising, MembersStored}
use Rattle.gx_json.proofs.OperatorLemmas.{items_split, members_split, hold_no_item, hold_more_items, hold_no_member, hold_other_member, hold_more_members, refuted, answers_no, objects_held}
use Rattle.gx_json.proofs.operators.+held.Goals as goal

pub are_held-returns-then-not-is_held_by_some : goal.are_held-returns-then-not-is_held_by_some
are_held-returns-then-not-is_held_by_some t c =
    let l = c.loop-other in
    let others = c.args.others.now in
    let q = c.other-item.result in
    let split = items_split others l.other-index q c.loop-other-test.true c.other-item.is in
    answers_no (hold_no_item (items_data c.args.items.now) (items_data others) (items_data (drop l.other-index others)) (items_data (drop (l.other-index + 1) others)) (data_of q) split l.invariant.1 (refuted c.is_held_by_some.result c.is_held_by_some.ensures c.if-not-is_held_by_some.true))

pub are_held-loop-other-preserved : goal.are_held-loop-other-preserved
are_held-loop-other-preserved t c =
    let l = c.loop-other in
    let others = c.args.others.now in
    let q = c.other-item.result in
    let split = items_split others l.other-index q c.loop-other-test.true c.other-item.is in
    let more = items_data (drop (l.other-index + 1) others) in (
      (subst AreStored split l.invariant.0).1,
      hold_more_items (items_data c.args.items.now) (items_data others) (items_data (drop l.other-index others)) more (data_of q) split l.invariant.1 (c.is_held_by_some.ensures.0 c.if-not-is_held_by_some.false),
    )

pub is_held-returns-in-Object-Object : goal.is_held-returns-in-Object-Object
is_held-returns-in-Object-Object t c =
    let a = data_at_Object c.args.other.now c.in-Object-Object.others c.in-Object-Object.is-0 ∙ ap (λ ps. object (members_data ps)) (sym c.deref-in-Object-Object.ensures.value) in
    let b = data_at_Object c.args.value.now c.in-Object-Object.pairs c.in-Object-Object.is-1 ∙ ap (λ ps. object (members_data ps)) (sym c.deref-in-Object-Object-2.ensures.value) in
    objects_held c.pairs_held.result (data_of c.args.value.now) (data_of c.args.other.now) (members_data c.deref-in-Object-Object-2.result.now) (members_data c.deref-in-Object-Object.result.now) b a c.pairs_held.ensures

pub pairs_held-returns-in_default : goal.pairs_held-returns-in_default
pairs_held-returns-in_default t c =
    let l = c.loop-other in
    let others = c.args.others.now in
    let q = c.other-item.result in
    let key = c.as_slice.result.now in
    let more = members_data (drop (l.other-index + 1) others) in
    let split = members_split others l.other-index q c.loop-other-test.true c.other-item.is ∙ ap (λ (k : List ℕ). member k (data_of q.1) more) (sym c.as_slice.ensures) in
    answers_no (hold_no_member (members_data c.args.pairs.now) (members_data others) (members_data l.rest.now) (members_data (drop l.other-index others)) more key (data_of q.1) l.invariant.3 split c.in_default.ensures)

pub pairs_held-returns-then-not-is_held : goal.pairs_held-returns-then-not-is_held
pairs_held-returns-then-not-is_held t c =
    let l = c.loop-other in
    let others = c.args.others.now in
    let q = c.other-item.result in
    let key = c.as_slice.result.now in
    let more = members_data (drop (l.other-index + 1) others) in
    let split = members_split others l.other-index q c.loop-other-test.true c.other-item.is ∙ ap (λ (k : List ℕ). member k (data_of q.1) more) (sym c.as_slice.ensures) in
    answers_no (hold_other_member (members_data c.args.pairs.now) (members_data others) (members_data l.rest.now) (members_data (drop l.other-index others)) more (members_data c.in-Some.behind.now) key (data_of q.1) (data_of c.in-Some.value.now) l.invariant.3 split l.invariant.0 c.in-Some.ensures (refuted c.is_held.result c.is_held.ensures c.if-not-is_held.true))

pub pairs_held-loop-other-preserved : goal.pairs_held-loop-other-preserved
pairs_held-loop-other-preserved t c =
    let l = c.loop-other in
    let others = c.args.others.now in
    let q = c.other-item.result in
    let key = c.as_slice.result.now in
    let more = members_data (drop (l.other-index + 1) others) in
    let split = members_split others l.other-index q c.loop-other-test.true c.other-item.is ∙ ap (λ (k : List ℕ). member k (data_of q.1) more) (sym c.as_slice.ensures) in
    let found = c.in-Some.ensures in (
      found.are,
      (subst IsRising split l.invariant.1).1,
      (subst MembersStored split l.invariant.2).1,
      hold_more_members (members_data c.args.pairs.now) (members_data others) (members_data l.rest.now) (members_data (drop l.other-index others)) more (members_data c.in-Some.behind.now) key (data_of q.1) (data_of c.in-Some.value.now) l.invariant.3 split l.invariant.1 found (c.is_held.ensures.0 c.if-not-is_held.false),
    )
