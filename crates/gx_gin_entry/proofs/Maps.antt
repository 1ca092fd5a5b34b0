-- An entry tree after a change, as a map.
use Rattle.std.proofs.Common.{◌≡◌, ◌≢◌, ℕ, zero, suc, ◌+◌, ◌<◌, ◌≤◌, List, [], ◌∷◌, ◌++◌, length, map, Option, Some, None, refl, sym, ◌∙◌, ap, subst, append_assoc, append-nil, arith}
use Rattle.std.specs.List.{AllByRecursion}
use Rattle.gx_pages.specs.declared.store.Pages.{Ghosts}
use Rattle.gx_pages.specs.Footprints.{KeepsPages}
use Rattle.gx_pages.proofs.Footprints as feet_of
use Rattle.gx_slot.specs.Slots.{Slots}
use Rattle.gx_tree.specs.Changing.{Changed}
use Rattle.gx_tree.specs.Finding.{LeafAt, Rewritten}
use Rattle.gx_tree.specs.Trees.{HoldsBeside, Tree, entries, footprint, slots, slots_of}
use Rattle.gx_gin_entry.specs.EntryTrees.{AreListed, AreRising, AreShorter, Entry, HasLonger, HoldsEntries, HoldsMap, IsBetween, IsEntry, IsHere, IsPut, IsRemoved, IsReplaced, Puts, by_key, entry_bytes, entry_of, key_bytes}
use Rattle.gx_gin_entry.specs.Lists.{map_join, one_list}
use Rattle.gx_gin_entry.proofs.Edits.{before_other, behind_other, round_here}
use Rattle.gx_gin_entry.proofs.Leaves.{Cut, Parts, entries_same, later_are, later_items, later_map, map_same_later, mid_listed, parts, parts_of, put_in, take_out, whole_other}
use Rattle.gx_gin_entry.proofs.Stops.{between_none}

pub not_longer : (list : List Entry) (key posting : List ℕ) → AreShorter list key posting → HasLonger list key posting → ⊥
not_longer list key posting all longer =
    let here = (feet_of.all_right (λ (e : Entry). e.0 ≡ key → length e.1 < length posting) longer.front ((key, longer.was) ∷ longer.back) (subst (λ (l : List Entry). AreShorter l key posting) longer.is all)).0 in
    let less = here refl in
    let long = longer.long in
    omega (arith, less, long)

old_cut : (a b : List Entry) (e : Entry) (c d : List Entry) → (a ++ (b ++ e ∷ c)) ++ d ≡ ((a ++ b) ++ (e ∷ [])) ++ (c ++ d)
old_cut a b e c d = simp append_assoc

new_cut : (a b : List Entry) (e : Entry) (c d : List Entry) → (a ++ (b ++ e ∷ c)) ++ d ≡ (a ++ b) ++ e ∷ (c ++ d)
new_cut a b e c d = simp append_assoc

out_cut : (a b c d : List Entry) → (a ++ (b ++ c)) ++ d ≡ (a ++ b) ++ (c ++ d)
out_cut a b c d = simp append_assoc

module _ {P : Type 0} (g : Ghosts P) (old mid new : P) (root : ℕ) (list : List Entry) (feet free : List ℕ) (held : HoldsEntries g old root list feet free) (map_same : g.map mid ≡ g.map old) (count_same : g.count mid ≡ g.count old) where
  kept : (later : List ℕ) (rest : List ℕ) → KeepsPages g mid new (footprint held.held.tree) free later rest → KeepsPages g old new feet free later rest
  kept later rest keeps =
      subst (λ (l : List ℕ). KeepsPages g old new l free later rest) (sym held.held.stand) (feet_of.keeps_from g old mid new (footprint held.held.tree) free later rest map_same count_same keeps)

  module _ (key : List ℕ) (page : ℕ) (was : Slots) (leaf : LeafAt g mid by_key (key_bytes key) 5 held.held.tree.0 None None held.held.tree.1 page was) (now : Slots)
      (rewritten : (kind top : ℕ) (tree : Tree) (rest : List ℕ) (before : Slots) (items : List (List ℕ)) → HoldsBeside g mid kind top tree rest → (at : LeafAt g mid by_key (key_bytes key) kind tree.0 None None tree.1 page before)
      → now ≡ slots_of kind 0 (page, items) → by_key.AreIn at.from at.to items → Rewritten g mid new by_key kind top tree rest (at.front ++ items ++ at.back)) where
    abbrev held_mid : HoldsMap (g.map mid) (g.count mid) root list feet
    held_mid = map_same_later g old mid root list feet map_same count_same held.held

    abbrev in_parts : Parts list leaf.front leaf.leaf leaf.back
    in_parts = parts g mid root list feet held_mid key page was leaf

    pub put_done : (posting : List ℕ) → ((l : List Entry) → AreListed was.items l → IsReplaced now.items l key posting) → now ≡ record was { items = now.items }
        → (later : List Entry) × (stand : List ℕ) × HoldsEntries g new root later stand free × KeepsPages g old new feet free stand free × IsPut key posting list later
    put_done posting replaced same =
        let is = replaced in_parts.mid (mid_listed g mid root list feet held_mid key page was leaf) in
        let part = is.front ++ (key, posting) ∷ is.back in
        let items = map entry_bytes part in
        let have = put_in g mid root list feet held_mid key page was leaf is.front is.was posting is.back is.cut (record { is = refl; are = is.listed.are; rising = is.listed.rising }) in
        let written : now ≡ slots_of 5 0 (page, items) = same ∙ ap (λ (s : Slots). record s { items = now.items }) leaf.is ∙ ap (λ (l : List (Option (List ℕ))). slots 5 0 l) is.listed.is in
        let done = rewritten 5 root held.held.tree free was items (entries_same g old mid root list feet free map_same count_same held) leaf written have in
        let later = in_parts.left ++ part ++ in_parts.right in (
          later,
          footprint done.later,
          later_map g new root done.later free later done.held done.keyed (later_items g mid root list feet held_mid key page was leaf part (entries done.later) done.has)
              (later_are g mid root list feet held_mid key page was leaf part is.listed.are),
          kept (footprint done.later) free done.keeps,
          record {
            front = in_parts.left ++ is.front;
            was = Some is.was;
            back = is.back ++ in_parts.right;
            old = in_parts.cut.is ∙ ap (λ (l : List Entry). in_parts.left ++ l ++ in_parts.right) is.cut ∙ old_cut in_parts.left is.front (key, is.was) is.back in_parts.right;
            new = new_cut in_parts.left is.front (key, posting) is.back in_parts.right;
          },
        )

    pub remove_done : (place : ℕ) → ((l : List Entry) → AreListed was.items l → IsHere l key place)
        → ((l front back : List Entry) (entry : Entry) → AreListed was.items l → l ≡ front ++ entry ∷ back → place ≡ length front → now ≡ slots 5 0 (map (λ item. Some item) (map entry_bytes (front ++ back))))
        → (later : List Entry) × (stand : List ℕ) × HoldsEntries g new root later stand free × KeepsPages g old new feet free stand free × IsRemoved key list later
    remove_done place finds made =
        let listed = mid_listed g mid root list feet held_mid key page was leaf in
        let is = finds in_parts.mid listed in
        let part = is.front ++ is.back in
        let items = map entry_bytes part in
        let have = take_out g mid root list feet held_mid key page was leaf is.front is.posting is.back is.cut in
        let written : now ≡ slots_of 5 0 (page, items) = made in_parts.mid is.front is.back (key, is.posting) listed is.cut is.at in
        let done = rewritten 5 root held.held.tree free was items (entries_same g old mid root list feet free map_same count_same held) leaf written have in
        let later = in_parts.left ++ part ++ in_parts.right in
        let round = round_here is.front key is.posting is.back (subst (λ (l : List Entry). AreRising l) is.cut listed.rising) in
        let all = subst (λ (l : List Entry). AllByRecursion IsEntry l) is.cut listed.are in (
          later,
          footprint done.later,
          later_map g new root done.later free later done.held done.keyed (later_items g mid root list feet held_mid key page was leaf part (entries done.later) done.has)
              (later_are g mid root list feet held_mid key page was leaf part
              (feet_of.all_join IsEntry is.front is.back (feet_of.all_left IsEntry is.front ((key, is.posting) ∷ is.back) all) (feet_of.all_right IsEntry is.front ((key, is.posting) ∷ is.back) all).1)),
          kept (footprint done.later) free done.keeps,
          record {
            front = in_parts.left ++ is.front;
            was = Some is.posting;
            back = is.back ++ in_parts.right;
            old = in_parts.cut.is ∙ ap (λ (l : List Entry). in_parts.left ++ l ++ in_parts.right) is.cut ∙ old_cut in_parts.left is.front (key, is.posting) is.back in_parts.right;
            new = out_cut in_parts.left is.front is.back in_parts.right;
            gone = whole_other g mid root list feet held_mid key page was leaf part
                (feet_of.all_join (λ (e : Entry). e.0 ≢ key) is.front is.back (before_other is.front key round.before) (behind_other is.back key round.behind));
          },
        )

  -- nothing was written
  pub remove_none : (key : List ℕ) (page : ℕ) (was : Slots) (leaf : LeafAt g mid by_key (key_bytes key) 5 held.held.tree.0 None None held.held.tree.1 page was) (place : ℕ) → ((l : List Entry) → AreListed was.items l → IsBetween l key place)
      → (later : List Entry) × (stand : List ℕ) × HoldsEntries g mid root later stand free × KeepsPages g old mid feet free stand free × IsRemoved key list later
  remove_none key page was leaf place finds =
      let map_held : HoldsMap (g.map mid) (g.count mid) root list feet = map_same_later g old mid root list feet map_same count_same held.held in
      let inside = parts g mid root list feet (map_same_later g old mid root list feet map_same count_same held.held) key page was leaf in
      let none = between_none inside.mid key place (finds inside.mid (mid_listed g mid root list feet (map_same_later g old mid root list feet map_same count_same held.held) key page was leaf)) in
      let frees = feet_of.free_list_at (g.map mid) (g.map old) (g.count mid) (g.count old) free map_same count_same held.frees in (
        list,
        feet,
        record { held = map_held; frees = frees; apart = held.apart },
        feet_of.keeps_from g old mid mid feet free feet free map_same count_same (feet_of.keeps_none g mid feet free frees),
        record {
          front = list;
          was = None;
          back = [];
          old = sym (append-nil (list ++ []) ∙ append-nil list);
          new = sym (append-nil list);
          gone = subst (λ (l : List Entry). AllByRecursion (λ e. e.0 ≢ key) l) (sym inside.cut.is) (whole_other g mid root list feet (map_same_later g old mid root list feet map_same count_same held.held) key page was leaf inside.mid none);
        },
      )

  -- a change of the tree
  pub put_changed : (key posting : List ℕ) → Changed g mid new by_key (Puts key posting) 5 root held.held.tree free
      → (later : List Entry) × (stand : List ℕ) × (rest : List ℕ) × HoldsEntries g new root later stand rest × KeepsPages g old new feet free stand rest × IsPut key posting list later
  put_changed key posting changed =
      let e = changed.edited in
      let inside = parts_of list e.front e.was e.back (sym e.old ∙ held.held.spelled) in
      let all = subst (λ (l : List Entry). AllByRecursion IsEntry l) inside.cut.is held.held.are in
      let first = feet_of.all_left IsEntry (inside.left ++ inside.mid) inside.right all in
      let left_are = feet_of.all_left IsEntry inside.left inside.mid first in
      let mid_are = feet_of.all_right IsEntry inside.left inside.mid first in
      let right_are = feet_of.all_right IsEntry (inside.left ++ inside.mid) inside.right all in
      let same : inside.mid ≡ e.done.list = one_list inside.mid e.done.list mid_are e.done.are (sym inside.cut.leaf_is ∙ e.done.old) in
      let put = e.done.put in
      let later = inside.left ++ e.done.later ++ inside.right in
      let spelled : entries changed.later ≡ map entry_bytes later =
      e.new ∙ ap (λ (l : List (List ℕ)). l ++ e.is ++ e.back) inside.cut.front_is ∙ ap (λ (l : List (List ℕ)). map entry_bytes inside.left ++ l ++ e.back) e.done.new
      ∙ ap (λ (l : List (List ℕ)). map entry_bytes inside.left ++ map entry_bytes e.done.later ++ l) inside.cut.back_is
      ∙ ap (λ (l : List (List ℕ)). l ++ map entry_bytes inside.right) (sym (map_join inside.left e.done.later)) ∙ sym (map_join (inside.left ++ e.done.later) inside.right) in (
        later,
        footprint changed.later,
        changed.rest,
        later_map g new root changed.later changed.rest later changed.held changed.keyed spelled
            (feet_of.all_join IsEntry (inside.left ++ e.done.later) inside.right (feet_of.all_join IsEntry inside.left e.done.later left_are e.done.will) right_are),
        kept (footprint changed.later) changed.rest changed.keeps,
        record {
          front = inside.left ++ put.front;
          was = put.was;
          back = put.back ++ inside.right;
          old = inside.cut.is ∙ ap (λ (l : List Entry). inside.left ++ l ++ inside.right) (same ∙ put.old) ∙ regroup inside.left put.front (entry_of key put.was) put.back inside.right;
          new = ap (λ (l : List Entry). inside.left ++ l ++ inside.right) put.new ∙ new_cut inside.left put.front (key, posting) put.back inside.right;
        },
      )
    where
      regroup : (a b e c d : List Entry) → (a ++ ((b ++ e) ++ c)) ++ d ≡ ((a ++ b) ++ e) ++ (c ++ d)
      regroup a b e c d = simp append_assoc

pub all_unit : (items : List (List ℕ)) → AllByRecursion (λ item. Unit {0}) items
all_unit [] = tt
all_unit (x ∷ items) = (tt, all_unit items)
