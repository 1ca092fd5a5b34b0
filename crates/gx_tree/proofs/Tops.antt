-- The root page of a tree.
use Rattle.std.proofs.Common.{◌≡◌, ◌≢◌, ℕ, ◌^◌, ◌<◌, ◌≤◌, List, Option, Some, refl, sym, ◌∙◌, ap, subst, arith}
use Rattle.gx_words.specs.PageMap.{PageMap}
use Rattle.gx_slot.specs.Slots.{Slots, Fits, IsSlotPage, spelling}
use Rattle.gx_tree.specs.Trees.{Tree, Holds, IsOn, page_of, slots_of}
use Rattle.gx_tree.proofs.Nodes.{level_below, root_below, root_on, slots_kind, slots_level}

module _ (now : PageMap) (count kind root : ℕ) (tree : Tree) (held : Holds now count kind root tree) where
  on : IsOn now kind tree.0 tree.1
  on = root_on now kind tree.0 tree.1 held.stand

  at_root : now root ≡ Some (spelling (slots_of kind tree.0 tree.1))
  at_root = ap (λ (n : ℕ). now n) (sym held.begins) ∙ on.is

  pub top_sound : (root ≢ 0 → root < count → (bytes : List ℕ) → now root ≡ Some bytes → ¬ IsSlotPage bytes kind) → ⊥
  top_sound broken =
      broken (λ none. on.some (held.begins ∙ none)) (subst (λ (n : ℕ). n < count) held.begins (root_below (λ (n : ℕ). n < count) tree.0 tree.1 held.below))
      (spelling (slots_of kind tree.0 tree.1)) at_root (slots_of kind tree.0 tree.1, refl, on.fits, slots_kind kind tree.0 tree.1)

  pub top_is : (found : Slots) → ((s : Slots) → now root ≡ Some (spelling s) → Fits s → found ≡ s) → found ≡ slots_of kind tree.0 tree.1
  top_is found one = one (slots_of kind tree.0 tree.1) at_root on.fits

  pub top_level : count ≤ 2 ^ 50 → (slots_of kind tree.0 tree.1).level < 50
  top_level bound = subst (λ (n : ℕ). n < 50) (sym (slots_level kind tree.0 tree.1)) (level_below now count kind root tree.0 tree.1 held bound)
