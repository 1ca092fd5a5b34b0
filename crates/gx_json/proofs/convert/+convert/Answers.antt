use Rattle.std.proofs.Common.{◌≡◌, List, ℕ, [], ◌∷◌, ◌++◌, string_bytes, IsUtf8, sym, ap, ◌∙◌, subst, append_assoc, append-nil}
use Rattle.serde_json.specs.Data.{array, object}
use Rattle.serde_json.specs.View.{view, members_view}
use Rattle.serde_json.proofs.Views.{Entry, view-Array, view-Object}
use Rattle.gx_json.specs.declared.document.Json.{Json}
use Rattle.gx_json.specs.Tree.{data_of, items_data, members_data}
use Rattle.gx_json.specs.Valid.{IsStored, AreStored, MembersStored, IsRising}
use Rattle.gx_json.proofs.TreeLemmas.{data_of-List, data_of-Object}
use Rattle.gx_json.proofs.ConvertLemmas.{left_whole, stored_push, mapped_more, members_more, pairs_stored_push, members_left_whole, rising}
use Rattle.gx_json.proofs.convert.+convert.Goals as goal

pub convert-returns-in_ok-convert_items-in-Array : goal.convert-returns-in_ok-convert_items-in-Array
convert-returns-in_ok-convert_items-in-Array t c =
    let made = c.in_ok-convert_items-in-Array in
    let tree = data_of-List made.field-0 in
    (tree ∙ ap array made.ensures.0 ∙ sym (ap view c.in-Array.is ∙ view-Array c.in-Array.items), subst IsStored (sym tree) made.ensures.1)

pub convert-returns-in_ok-convert_members-in-Object : goal.convert-returns-in_ok-convert_members-in-Object
convert-returns-in_ok-convert_members-in-Object t c =
    let made = c.in_ok-convert_members-in-Object in
    let tree = data_of-Object made.field-0 in
    (tree ∙ ap object made.ensures.0 ∙ sym (ap view c.in-Object.is ∙ view-Object c.in-Object.members), subst IsStored (sym tree) (made.ensures.1.rising, made.ensures.1.stored))

pub convert_items-loop-item-preserved : goal.convert_items-loop-item-preserved
convert_items-loop-item-preserved t c =
    let l = c.loop-item in
    let vs = c.deref-item-items.result.now in
    let made = c.in_ok-convert in
    let more : c.push.new.self.items ≡ l.copies.items ++ made.field-0 ∷ [] = c.in_ok-push.ensures.items in (
      mapped_more data_of view l.copies.items c.push.new.self.items vs l.item-index made.field-0 c.item-item.result c.loop-item-test.true c.item-item.is l.invariant.0 made.ensures.0 more,
      left_whole vs l.item-index c.item-item.result c.loop-item-test.true c.item-item.is l.invariant.1,
      subst (λ (js : List Json). AreStored (items_data js)) (sym more) (stored_push l.copies.items made.field-0 l.invariant.2 made.ensures.1),
    )

pub convert_members-loop-key-preserved : goal.convert_members-loop-key-preserved
convert_members-loop-key-preserved t c =
    let l = c.loop-key in
    let done = l.invariant.0 in
    let e : Entry = (c.in-Some.key.now, c.in-Some.member.now) in
    let left = c.next.new.self in
    let made = c.in_ok-convert in
    let p : List ℕ × Json = (c.in_ok-name.name, made.field-0) in
    let split : l.key-iterator ≡ e ∷ left = c.in-Some.ensures.steps in
    let more : c.push.new.self.items ≡ l.copies.items ++ p ∷ [] = c.in_ok-push.ensures.items in
    let name : c.in_ok-name.name ≡ string_bytes e.0 = c.in_ok-name.ensures ∙ c.as_bytes.ensures.value ∙ c.as_str.ensures.value in
    let text : IsUtf8 c.in_ok-name.name = subst IsUtf8 (sym (c.in_ok-name.ensures ∙ c.as_bytes.ensures.value)) c.as_str.utf8 in (
      done ++ e ∷ [],
      l.invariant.1 ∙ ap (λ (es : List Entry). done ++ es) split ∙ sym (append_assoc done (e ∷ []) left),
      ap members_data more ∙ members_more l.copies.items done p e l.invariant.2 name made.ensures.0,
      members_left_whole e l.key-iterator left split l.invariant.3,
      subst (λ (ps : List (List ℕ × Json)). MembersStored (members_data ps)) (sym more) (pairs_stored_push l.copies.items p l.invariant.4 text made.ensures.1),
    )

pub convert_members-returns : goal.convert_members-returns
convert_members-returns t c =
    let l = c.loop-key in
    let done = l.invariant.0 in
    let all : c.args.members.now.entries ≡ done = l.invariant.1 ∙ ap (λ (es : List Entry). done ++ es) c.in-None.ensures.steps.0 ∙ append-nil done in
    let same : members_data l.copies.items ≡ members_view c.args.members.now.entries = l.invariant.2 ∙ ap members_view (sym all) in
    (same, record { rising = subst IsRising (sym same) (rising c.args.members.now.entries c.iter-key-items.ensures.ordered); stored = l.invariant.4 })
