-- The entry with the next key, on the page where a key belongs or behind it.
use Rattle.std.proofs.Common.{◌≡◌, ℕ, List, ◌++◌, map, Option, Some, None, sym, ◌∙◌, subst}
use Rattle.std.specs.List.{AllByRecursion}
use Rattle.gx_pages.specs.declared.store.Pages.{Ghosts}
use Rattle.gx_pages.proofs.Footprints as feet_of
use Rattle.gx_slot.specs.Slots.{Slots}
use Rattle.gx_tree.specs.Finding.{LeafAt}
use Rattle.gx_tree.specs.Trees.{items_of}
use Rattle.gx_gin_entry.specs.EntryTrees.{AreListed, AreRising, Entry, HoldsMap, IsAbove, IsBefore, IsEntry, IsNext, by_key, entry_bytes, key_bytes, key_or_least}
use Rattle.gx_gin_entry.proofs.Leaves.{Parts, left_before, map_same_later, mid_listed, parts, right_are, right_behind, right_rise}
use Rattle.gx_gin_entry.proofs.Nexts.{left_below, next_above, next_before, next_behind, right_above}

module _ {P : Type 0} (g : Ghosts P) (old mid : P) (root : ℕ) (list : List Entry) (feet : List ℕ) (map_same : g.map mid ≡ g.map old) (count_same : g.count mid ≡ g.count old) (held : HoldsMap (g.map old) (g.count old) root list feet)
    (low : Option (List ℕ)) (key : List ℕ) (key_is : key ≡ key_or_least low) (page : ℕ) (was : Slots) (leaf : LeafAt g mid by_key (key_bytes key) 5 held.tree.0 None None held.tree.1 page was) where
  abbrev pub later : HoldsMap (g.map mid) (g.count mid) root list feet
  later = map_same_later g old mid root list feet map_same count_same held

  abbrev pub inside : Parts list leaf.front leaf.leaf leaf.back
  inside = parts g mid root list feet (map_same_later g old mid root list feet map_same count_same held) key page was leaf

  listed : AreListed was.items inside.mid
  listed = mid_listed g mid root list feet (map_same_later g old mid root list feet map_same count_same held) key page was leaf

  pub after_refused : ((l : List Entry) → AreListed was.items l → ⊥) → ⊥
  after_refused refused = refused inside.mid listed

  left_low : AllByRecursion (λ e. IsAbove low e → ⊥) inside.left
  left_low =
      left_below low inside.left
      (subst (λ (k : List ℕ). AllByRecursion (λ e. IsBefore e.0 k) inside.left) key_is (left_before g mid root list feet (map_same_later g old mid root list feet map_same count_same held) key page was leaf))

  pub after_here : (e : Entry) → ((l : List Entry) → AreListed was.items l → IsNext l low (Some e)) → IsNext list low (Some e)
  after_here e found =
      subst (λ (l : List Entry). IsNext l low (Some e)) (sym inside.cut.is)
      (next_before (inside.left ++ inside.mid) inside.right low e (next_behind inside.left inside.mid low (Some e) left_low (found inside.mid listed)))

  pub after_behind : (found : Option Entry) → ((l : List Entry) → AreListed was.items l → IsNext l low None) → IsNext inside.right None found → IsNext list low found
  after_behind found none next =
      subst (λ (l : List Entry). IsNext l low found) (sym inside.cut.is)
      (next_behind (inside.left ++ inside.mid) inside.right low found (feet_of.all_join (λ (e : Entry). IsAbove low e → ⊥) inside.left inside.mid left_low (none inside.mid listed))
      (next_above inside.right low found
      (right_above low inside.right (subst (λ (k : List ℕ). AllByRecursion (λ e. IsBefore k e.0) inside.right) key_is
      (right_behind g mid root list feet (map_same_later g old mid root list feet map_same count_same held) key page was leaf))) next))

  pub others_spelled : items_of leaf.others ≡ map entry_bytes inside.right
  others_spelled = sym leaf.back_is ∙ inside.cut.back_is

  pub others_are : AllByRecursion IsEntry inside.right
  others_are = right_are g mid root list feet (map_same_later g old mid root list feet map_same count_same held) key page was leaf

  pub others_rise : AreRising inside.right
  others_rise = right_rise g mid root list feet (map_same_later g old mid root list feet map_same count_same held) key page was leaf
