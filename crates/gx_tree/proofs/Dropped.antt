-- Pages that are given back one by one.
use Rattle.std.proofs.Common.{◌≡◌, ◌≢◌, ℕ, zero, suc, ◌+◌, ◌<◌, ◌≤◌, List, [], ◌∷◌, ◌++◌, length, map, take, drop, get_or, Option, Some, refl, sym, ◌∙◌, ap, subst, append_assoc, append-nil, length-append, arith}
use Rattle.std.specs.List.{AllByRecursion}
use Rattle.std.specs.List.Sorted.{IsPermutation}
use Rattle.std.proofs.lemmas.List.{take_all}
use Rattle.std.proofs.lemmas.List.Sorted.{IsPermutation-refl, IsPermutation-trans, IsPermutation-cons, IsPermutation-middle}
use Rattle.gx_words.specs.PageMap.{PageMap}
use Rattle.gx_pages.specs.declared.store.Pages.{Ghosts}
use Rattle.gx_pages.specs.Frees.{IsApart, IsFreeList, KeepsHeader, Given}
use Rattle.gx_pages.specs.Footprints.{IsOutside, ChangesOnly, KeepsPages, grown}
use Rattle.gx_pages.proofs.Footprints as feet
use Rattle.gx_slot.specs.Slots.{Slots, Fits, IsSlotPage, spelling}
use Rattle.gx_tree.specs.Dropping.{Gives, IsKind}
use Rattle.gx_tree.specs.Trees.{Holds, HoldsBeside, IsOn, Leaf, leaves, Node, Stand, Tree, children, footprint, leaves_of, numbers, page_of, pages_of, slots_of, uppers_of}
use Rattle.gx_tree.proofs.Lists.{At, all_map, all_place, all_unmap, at_place}
use Rattle.gx_tree.proofs.Nodes.{pages_suc, row_all, slots_kind, slots_level, stand_leaves}

-- the first pages of the list are given
pub record Dropping {P : Type 0} (g : Ghosts P) (old now : P) (list free : List ℕ) (i : ℕ) : Type 0 where
  pub rest : List ℕ
  pub frees : IsFreeList (g.map now) (g.count now) rest
  pub moved : IsPermutation (take i list ++ free) rest
  pub others : ChangesOnly (g.map old) (g.map now) (take i list)
  pub header : KeepsHeader (g.map old) (g.map now)

module _ {P : Type 0} (g : Ghosts P) (old : P) (kind : ℕ) (list free : List ℕ) (gives : Gives g old kind list free) where
  pub dropping_none : Dropping g old old list free 0
  dropping_none = record {
    rest = free;
    frees = gives.frees;
    moved = IsPermutation-refl free;
    others = λ page some outside. refl;
    header = feet.header_none (g.map old);
  }

  module _ (now : P) (i page : ℕ) (below : i < length list) (at : get_or list i page ≡ page) (so_far : Dropping g old now list free i) (count : g.count now ≡ g.count old) where
    is_page : (at_place list i below).item ≡ page
    is_page = sym ((at_place list i below).is page) ∙ at

    kind_of : IsKind (g.map old) (g.count old) kind page
    kind_of = subst (λ (n : ℕ). IsKind (g.map old) (g.count old) kind n) is_page (all_place (IsKind (g.map old) (g.count old) kind) list i below gives.are)

    cut : list ≡ take i list ++ page ∷ drop (i + 1) list
    cut = (at_place list i below).cut ∙ ap (λ (n : ℕ). take i list ++ n ∷ drop (i + 1) list) is_page

    more : take (i + 1) list ≡ take i list ++ page ∷ []
    more = (at_place list i below).more ∙ ap (λ (n : ℕ). take i list ++ n ∷ []) is_page

    apart : IsApart (take i list ++ page ∷ (drop (i + 1) list ++ free))
    apart = subst (λ (l : List ℕ). IsApart l) (ap (λ (l : List ℕ). l ++ free) cut ∙ append_assoc (take i list) (page ∷ drop (i + 1) list) free) gives.apart

    same_now : g.map now page ≡ g.map old page
    same_now = so_far.others page kind_of.some (feet.apart_before (take i list) page (drop (i + 1) list ++ free) apart)

    pub dropping_sound : (page ≢ 0 → page < g.count now → (bytes : List ℕ) → g.map now page ≡ Some bytes → ¬ IsSlotPage bytes kind) → ⊥
    dropping_sound broken =
        broken kind_of.some (let few = kind_of.below in omega (arith, few, count)) (spelling kind_of.slots) (same_now ∙ kind_of.is) (kind_of.slots, refl, kind_of.fits, kind_of.kinds)

    outside_rest : IsOutside page so_far.rest
    outside_rest = feet.none_outside page so_far.rest (omega (
      arith,
      feet.times-permutation page (take i list ++ free) so_far.rest so_far.moved,
      feet.times-append page (take i list) free,
      feet.apart_once (take i list ++ page ∷ (drop (i + 1) list ++ free)) apart page,
      feet.times-append page (take i list) (page ∷ (drop (i + 1) list ++ free)),
      feet.times_one page (drop (i + 1) list ++ free),
      feet.times-append page (drop (i + 1) list) free,
    ))

    pub dropping_more : (new : P) → ((n : ℕ) → n ≢ 0 → n ≢ page → g.map new n ≡ g.map now n) → KeepsHeader (g.map now) (g.map new) → g.count new ≡ g.count now
        → ((l : List ℕ) → IsFreeList (g.map now) (g.count now) l → AllByRecursion (λ other. page ≢ other) l → Given (g.map now) (g.map new) (g.count now) page l)
        → Dropping g old new list free (i + 1)
    dropping_more new only header same given = record {
      rest = page ∷ so_far.rest;
      frees = subst (λ (n : ℕ). IsFreeList (g.map new) n (page ∷ so_far.rest)) (sym same) (given so_far.rest so_far.frees outside_rest).frees;
      moved = subst (λ (l : List ℕ). IsPermutation (l ++ free) (page ∷ so_far.rest)) (sym more)
          (subst (λ (l : List ℕ). IsPermutation l (page ∷ so_far.rest)) (sym (append_assoc (take i list) (page ∷ []) free))
          (IsPermutation-trans (take i list ++ page ∷ free) (page ∷ (take i list ++ free)) (page ∷ so_far.rest) (IsPermutation-middle (take i list) page free)
          (IsPermutation-cons page (take i list ++ free) so_far.rest so_far.moved)));
      others = λ n some outside.
          let both : IsOutside n (take i list ++ page ∷ []) = subst (λ (l : List ℕ). IsOutside n l) more outside in
          only n some (feet.all_right (λ (other : ℕ). n ≢ other) (take i list) (page ∷ []) both).0 ∙ so_far.others n some (feet.all_left (λ (other : ℕ). n ≢ other) (take i list) (page ∷ []) both);
      header = feet.header_join (g.map old) (g.map now) (g.map new) so_far.header header;
    }

  pub dropping_all : (now : P) (i : ℕ) → length list ≤ i → Dropping g old now list free i → g.count now ≡ g.count old → (rest : List ℕ) × KeepsPages g old now list free [] rest
  dropping_all now i ends done count =
      let all : take i list ≡ list = take_all i list ends in (
        done.rest,
        feet.keeps_of g old now list free [] done.rest (omega (arith, count))
            (subst (λ (l : List ℕ). ChangesOnly (g.map old) (g.map now) l) (all ∙ sym (append-nil list)) done.others) done.header done.frees
            (subst (λ (l : List ℕ). IsPermutation l done.rest)
            (ap (λ (l : List ℕ). l ++ free) all ∙ sym (append-nil (list ++ free)) ∙ ap (λ (l : List ℕ). list ++ free ++ l) (sym (feet.same_count (g.count old) (g.count now) (sym count)))) done.moved),
      )

-- each page of a tree is a slot page
module _ (now : PageMap) (count kind : ℕ) where
  is_kind : (level : ℕ) (node : Node level) → page_of level node < count → IsOn now kind level node → IsKind now count kind (page_of level node)
  is_kind level node below on = record { slots = slots_of kind level node; some = on.some; is = on.is; fits = on.fits; kinds = slots_kind kind level node; below = below }

  leaves_kind : (ends : List Leaf) → AllByRecursion (IsOn now kind 0) ends → AllByRecursion (λ page. page < count) (numbers ends) → AllByRecursion (IsKind now count kind) (numbers ends)
  leaves_kind [] on below = tt
  leaves_kind (leaf ∷ ends) on below = (is_kind 0 leaf below.0 on.0, leaves_kind ends on.1 below.1)

  row_kind : (level : ℕ) (nodes : List (Node (suc level))) → AllByRecursion (IsOn now kind (suc level)) nodes → AllByRecursion (λ page. page < count) (map (λ node. node.0) nodes)
      → AllByRecursion (IsKind now count kind) (map (λ node. node.0) nodes)
  row_kind level [] on below = tt
  row_kind level (x ∷ nodes) on below = (is_kind (suc level) x below.0 on.0, row_kind level nodes on.1 below.1)

  uppers_kind : (level : ℕ) (nodes : List (Node level)) → Stand now kind level nodes → AllByRecursion (λ page. page < count) (uppers_of level nodes) → AllByRecursion (IsKind now count kind) (uppers_of level nodes)
  uppers_kind zero nodes stand below = tt
  uppers_kind (suc level) nodes stand below =
      let own = map (λ (x : Node (suc level)). x.0) nodes in
      let rest = uppers_of level (children level nodes) in
      feet.all_join (IsKind now count kind) own rest (row_kind level nodes stand.0 (feet.all_left (λ (page : ℕ). page < count) own rest below))
      (uppers_kind level (children level nodes) stand.1 (feet.all_right (λ (page : ℕ). page < count) own rest below))

  pub pages_kind : (level : ℕ) (nodes : List (Node level)) → Stand now kind level nodes → AllByRecursion (λ page. page < count) (pages_of level nodes) → AllByRecursion (IsKind now count kind) (pages_of level nodes)
  pages_kind level nodes stand below =
      let ups = uppers_of level nodes in
      let ends = numbers (leaves_of level nodes) in
      feet.all_join (IsKind now count kind) ups ends (uppers_kind level nodes stand (feet.all_left (λ (page : ℕ). page < count) ups ends below))
      (leaves_kind (leaves_of level nodes) (stand_leaves now kind level nodes stand) (feet.all_right (λ (page : ℕ). page < count) ups ends below))

pub tree_gives : {P : Type 0} (g : Ghosts P) (pages : P) (kind root : ℕ) (tree : Tree) (free : List ℕ) → HoldsBeside g pages kind root tree free → Gives g pages kind (footprint tree) free
tree_gives g pages kind root tree free held = record {
  are = pages_kind (g.map pages) (g.count pages) kind tree.0 (tree.1 ∷ []) held.held.stand held.held.below;
  frees = held.frees;
  apart = held.apart;
}

pub gives_same : {P : Type 0} (g : Ghosts P) (old mid : P) (kind : ℕ) (list free : List ℕ) → g.map mid ≡ g.map old → g.count mid ≡ g.count old → Gives g old kind list free → Gives g mid kind list free
gives_same g old mid kind list free map count gives = record {
  are = subst (λ (m : PageMap). AllByRecursion (IsKind m (g.count mid) kind) list) (sym map) (subst (λ (n : ℕ). AllByRecursion (IsKind (g.map old) n kind) list) (sym count) gives.are);
  frees = feet.free_list_at (g.map mid) (g.map old) (g.count mid) (g.count old) free map count gives.frees;
  apart = gives.apart;
}

flat_pages : (root level : ℕ) (top : Node level) → level ≡ 0 → page_of level top ≡ root → root ∷ [] ≡ pages_of level (top ∷ [])
flat_pages root zero top flat begins = ap (λ (n : ℕ). n ∷ []) (sym begins)
flat_pages root (suc level) top flat begins = absurd (omega (arith, flat))

pub flat_tree : (now : PageMap) (count kind root : ℕ) (found : Slots) (tree : Tree) → Holds now count kind root tree → found ≡ slots_of kind tree.0 tree.1 → found.level ≡ 0 → root ∷ [] ≡ footprint tree
flat_tree now count kind root found tree held is flat =
    flat_pages root tree.0 tree.1 (sym (slots_level kind tree.0 tree.1) ∙ ap (λ (s : Slots). s.level) (sym is) ∙ flat) held.begins

module _ (now : PageMap) (count kind root : ℕ) (found : Slots) where
  high_refused : ((level : ℕ) (top : Node (suc level)) → Holds now count kind root (suc level, top) → found ≡ slots_of kind (suc level) top → ⊥)
      → (level : ℕ) (top : Node level) → Holds now count kind root (level, top) → found ≡ slots_of kind level top → found.level ≢ 0 → ⊥
  high_refused refused zero top held is high = high (ap (λ (s : Slots). s.level) is)
  high_refused refused (suc level) top held is high = refused level top held is

  pub tree_refused : ((level : ℕ) (top : Node (suc level)) → Holds now count kind root (suc level, top) → found ≡ slots_of kind (suc level) top → ⊥)
      → (tree : Tree) → Holds now count kind root tree → found ≡ slots_of kind tree.0 tree.1 → found.level ≢ 0 → ⊥
  tree_refused refused tree held is high = high_refused refused tree.0 tree.1 held is high

  high_pages : (uppers ends : List ℕ) → ((level : ℕ) (top : Node (suc level)) → Holds now count kind root (suc level, top) → found ≡ slots_of kind (suc level) top
      → (uppers ≡ uppers_of (suc level) (top ∷ [])) × (ends ≡ numbers (leaves_of (suc level) (top ∷ []))))
      → (level : ℕ) (top : Node level) → Holds now count kind root (level, top) → found ≡ slots_of kind level top → found.level ≢ 0
      → (uppers ≡ uppers_of level (top ∷ [])) × (ends ≡ numbers (leaves_of level (top ∷ [])))
  high_pages uppers ends are zero top held is high = absurd (high (ap (λ (s : Slots). s.level) is))
  high_pages uppers ends are (suc level) top held is high = are level top held is

  pub tree_pages : (uppers ends : List ℕ) → ((level : ℕ) (top : Node (suc level)) → Holds now count kind root (suc level, top) → found ≡ slots_of kind (suc level) top
      → (uppers ≡ uppers_of (suc level) (top ∷ [])) × (ends ≡ numbers (leaves_of (suc level) (top ∷ []))))
      → (tree : Tree) → Holds now count kind root tree → found ≡ slots_of kind tree.0 tree.1 → found.level ≢ 0
      → (uppers ≡ uppers_of tree.0 (tree.1 ∷ [])) × (ends ≡ numbers (leaves tree))
  tree_pages uppers ends are tree held is high = high_pages uppers ends are tree.0 tree.1 held is high

pub held_same : (old new : PageMap) (count later kind root : ℕ) (tree : Tree) → new ≡ old → later ≡ count → Holds old count kind root tree → Holds new later kind root tree
held_same old new count later kind root tree map same held =
    subst (λ (m : PageMap). Holds m later kind root tree) (sym map) (subst (λ (n : ℕ). Holds old n kind root tree) (sym same) held)
