-- A posting tree as a tree of pages.
use Rattle.std.proofs.Common.{◌≡◌, ℕ, ◌+◌, ◌<◌, List, [], ◌∷◌, ◌++◌, length, map, Some, sym, ◌∙◌, ap, subst, length-append}
use Rattle.std.specs.List.{AllByRecursion}
use Rattle.gx_words.specs.PageMap.{PageMap}
use Rattle.gx_pages.specs.declared.row.RowRef.{RowRef}
use Rattle.gx_pages.specs.declared.store.Pages.{Ghosts}
use Rattle.gx_pages.specs.Frees.{IsApart}
use Rattle.gx_pages.proofs.Footprints as feet_of
use Rattle.gx_slot.specs.Slots.{Slots}
use Rattle.gx_tree.specs.Trees.{HoldsBeside, IsOn, entries, leaves, numbers, slots_of, uppers_of}
use Rattle.gx_tree.proofs.Nodes.{stand_leaves, slots_level}
use Rattle.gx_tree.proofs.Dropped.{flat_tree}
use Rattle.gx_posting_tree.specs.PostingTrees.{HoldsList, HoldsRows}
use Rattle.gx_tree.proofs.Walks.{flat_items}

pub beside : {P : Type 0} (g : Ghosts P) (pages : P) (root : ℕ) (rows : List RowRef) (feet free : List ℕ) (held : HoldsRows g pages root rows feet free) → HoldsBeside g pages 6 root held.held.tree free
beside g pages root rows feet free held = record {
  held = held.held.held;
  frees = held.frees;
  apart = subst (λ (l : List ℕ). IsApart (l ++ free)) held.held.stand held.apart;
}

module _ (now : PageMap) (count root : ℕ) (rows : List RowRef) (feet : List ℕ) (held : HoldsList now count root rows feet) where
  -- its pages of level 0
  pub leaves_on : AllByRecursion (IsOn now 6 0) (leaves held.tree)
  leaves_on = stand_leaves now 6 held.tree.0 (held.tree.1 ∷ []) held.held.stand

  pub leaves_below : AllByRecursion (λ page. page < count) (numbers (leaves held.tree))
  leaves_below = feet_of.all_right (λ (page : ℕ). page < count) (uppers_of held.tree.0 (held.tree.1 ∷ [])) (numbers (leaves held.tree)) held.held.below

  pub feet_len : length feet ≡ length (uppers_of held.tree.0 (held.tree.1 ∷ [])) + length (numbers (leaves held.tree))
  feet_len = ap (λ (l : List ℕ). length l) held.stand ∙ length-append (uppers_of held.tree.0 (held.tree.1 ∷ [])) (numbers (leaves held.tree))

  module _ (found : Slots) (is : found ≡ slots_of 6 held.tree.0 held.tree.1) (flat : found.level ≡ 0) where
    level_zero : held.tree.0 ≡ 0
    level_zero = sym (slots_level 6 held.tree.0 held.tree.1) ∙ ap (λ (s : Slots). s.level) (sym is) ∙ flat

    pub root_items : found.items ≡ map (λ item. Some item) (entries held.tree)
    root_items = flat_items 6 found held.tree is level_zero

    pub root_feet : length feet ≡ 1
    root_feet = ap (λ (l : List ℕ). length l) (held.stand ∙ sym (flat_tree now count 6 root found held.tree held.held is flat))
