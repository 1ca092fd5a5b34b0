-- A posting tree without some rows.
use Rattle.std.proofs.Common.{◌≡◌, ◌≢◌, ℕ, zero, suc, ◌<◌, Bool, true, List, [], ◌∷◌, ◌++◌, length, map, None, refl, sym, ◌∙◌, ap, ap₂, subst, append-nil, length-append, arith}
use Rattle.std.specs.Prelude.{◌↔◌, IfOk, OnOk, Result, Ok, Err}
use Rattle.std.specs.List.{AllByRecursion}
use Rattle.gx_words.specs.PageMap.{PageMap}
use Rattle.gx_pages.specs.declared.row.RowRef.{RowRef}
use Rattle.gx_pages.specs.declared.store.Pages.{Ghosts}
use Rattle.gx_pages.specs.Footprints.{ChangesOnly, IsOutside, KeepsPages, grown}
use Rattle.gx_pages.specs.Frees.{IsApart, IsFreeChain, IsFreeList}
use Rattle.gx_pages.proofs.Footprints as feet_of
use Rattle.gx_slot.specs.Slots.{Slots}
use Rattle.gx_tree.specs.Trees.{Holds, IsOn, Leaf, Node, Tree, footprint, items_of, leaves, leaves_of, numbers, page_of, slots_of, uppers_of}
use Rattle.gx_tree.proofs.Nodes.{slots_level}
use Rattle.gx_posting_tree.specs.PostingTrees.{AreSpelled, HoldsRows, without}
use Rattle.gx_posting_tree.specs.Removing.{LostRows, Paired}
use Rattle.gx_posting_tree.proofs.Held.{leaves_on}
use Rattle.gx_posting_tree.proofs.Relisted.{Relisted, Same, filter_rising, keyed_same, numbers_same, relist, same_page, stand_same, two_same, uppers_same}
use Rattle.gx_posting_tree.proofs.Stripped.{strips_all}

flat_numbers : (root level : ℕ) (top : Node level) → level ≡ 0 → page_of level top ≡ root → root ∷ [] ≡ numbers (leaves_of level (top ∷ []))
flat_numbers root zero top flat begins = ap (λ (n : ℕ). n ∷ []) (sym begins)
flat_numbers root (suc level) top flat begins = absurd (omega (arith, flat))

pub flat_leaves : (now : PageMap) (count root : ℕ) (found : Slots) (tree : Tree) → Holds now count 6 root tree → found ≡ slots_of 6 tree.0 tree.1 → found.level ≡ 0 → root ∷ [] ≡ numbers (leaves tree)
flat_leaves now count root found tree held is flat =
    flat_numbers root tree.0 tree.1 (sym (slots_level 6 tree.0 tree.1) ∙ ap (λ (s : Slots). s.level) (sym is) ∙ flat) held.begins

-- what a value says of a result holds where there is one
pub if_on : {T E : Type 0} (r : Result T E) (Q : T → Type 0) (H : Type 0) → ((x : T) → Q x → H) → IfOk r Q → OnOk r H
if_on (Ok x) Q H from is = from x is
if_on (Err e) Q H from is = tt

-- one page alone
record One {X : Type 0} (R : X → X → Type 0) (x : X) (ys : List X) : Type 0 where
  pub other : X
  pub is : ys ≡ other ∷ []
  pub same : R x other

one_pair : {X : Type 0} (R : X → X → Type 0) (x : X) (ys : List X) → Paired R (x ∷ []) ys → One R x ys
one_pair R x [] pairs = absurd pairs
one_pair R x (y ∷ []) pairs = record { other = y; is = refl; same = pairs.0 }
one_pair R x (y ∷ z ∷ ys) pairs = absurd pairs.1

apart_front : (xs ys : List ℕ) → IsApart (xs ++ ys) → AllByRecursion (λ page. IsOutside page ys) xs
apart_front [] ys apart = tt
apart_front (x ∷ xs) ys apart = (feet_of.all_right (λ (other : ℕ). x ≢ other) xs ys apart.0, apart_front xs ys apart.1)

zero_outside : (now : PageMap) (leaves : List Leaf) → AllByRecursion (IsOn now 6 0) leaves → IsOutside 0 (numbers leaves)
zero_outside now [] on = tt
zero_outside now (leaf ∷ leaves) on = (λ is. on.0.some (sym is), zero_outside now leaves on.1)

free_some : (map : PageMap) (first : ℕ) (pages : List ℕ) → IsFreeChain map first pages → AllByRecursion (λ page. page ≢ 0) pages
free_some map first [] chain = tt
free_some map first (page ∷ pages) chain = (chain.1, free_some map chain.2.0 pages chain.2.3)

spelled_some : (items : List (List ℕ)) (rows : List RowRef) → AreSpelled items rows → items ≡ [] ↔ rows ≡ []
spelled_some [] rows are = (λ e. are, λ e. refl)
spelled_some (item ∷ items) rows are = (
  λ e. cc,
  λ none. absurd (let some = are.3 in let e = ap (λ (l : List RowRef). length l) (sym are.2 ∙ none) in omega (arith, some, e, length-append are.0 are.1)),
)

module _ {P : Type 0} (g : Ghosts P) (old new : P) (root : ℕ) (gone rows : List RowRef) (feet free : List ℕ) (empty : Bool) (held : HoldsRows g old root rows feet free) (list : List ℕ)
    (list_is : list ≡ numbers (leaves held.held.tree)) (count : g.count new ≡ g.count old) (lost : LostRows gone (g.map old) (g.map new) list (leaves held.held.tree) empty) where
  abbrev tree : Tree
  tree = held.held.tree

  made : Relisted gone tree.0 (tree.1 ∷ []) lost.leaves
  made = relist gone tree.0 (tree.1 ∷ []) lost.leaves lost.strips

  top : One (Same gone tree.0) tree.1 made.later
  top = one_pair (Same gone tree.0) tree.1 made.later made.pairs

  abbrev later : Tree
  later = (tree.0, top.other)

  later_leaves : leaves later ≡ lost.leaves
  later_leaves = ap (λ (l : List (Node tree.0)). leaves_of tree.0 l) (sym top.is) ∙ made.are

  alone : Paired (Same gone tree.0) (tree.1 ∷ []) (top.other ∷ [])
  alone = (top.same, tt)

  same_feet : footprint later ≡ footprint tree
  same_feet =
      ap₂ (λ (a b : List ℕ). a ++ b) (sym (uppers_same gone tree.0 (tree.1 ∷ []) (top.other ∷ []) alone))
      (ap (λ (l : List Leaf). numbers l) later_leaves ∙ sym (numbers_same gone (leaves tree) lost.leaves lost.strips))

  others : (page : ℕ) → IsOutside page (numbers (leaves tree)) → g.map new page ≡ g.map old page
  others page outside = lost.others page (subst (λ (l : List ℕ). IsOutside page l) (sym list_is) outside)

  uppers_stay : AllByRecursion (λ page. g.map new page ≡ g.map old page) (uppers_of tree.0 (tree.1 ∷ []))
  uppers_stay =
      feet_of.all_weaker (λ (page : ℕ). IsOutside page (numbers (leaves tree))) (λ (page : ℕ). g.map new page ≡ g.map old page) (uppers_of tree.0 (tree.1 ∷ [])) others
      (apart_front (uppers_of tree.0 (tree.1 ∷ [])) (numbers (leaves tree)) held.held.held.apart)

  zero_same : g.map new 0 ≡ g.map old 0
  zero_same = others 0 (zero_outside (g.map old) (leaves tree) (leaves_on (g.map old) (g.count old) root rows feet held.held))

  changes : ChangesOnly (g.map old) (g.map new) feet
  changes page some outside =
      others page (feet_of.all_right (λ (other : ℕ). page ≢ other) (uppers_of tree.0 (tree.1 ∷ [])) (numbers (leaves tree)) (subst (λ (l : List ℕ). IsOutside page l) held.held.stand outside))

  holds : Holds (g.map new) (g.count new) 6 root later
  holds = record {
    stand = stand_same gone (g.map old) (g.map new) 6 tree.0 (tree.1 ∷ []) (top.other ∷ []) alone uppers_stay held.held.held.stand
        (subst (λ (l : List Leaf). AllByRecursion (IsOn (g.map new) 6 0) l) (sym later_leaves) lost.on);
    begins = sym (same_page gone tree.0 tree.1 top.other top.same) ∙ held.held.held.begins;
    apart = subst (λ (l : List ℕ). IsApart l) (sym same_feet) held.held.held.apart;
    below = subst (λ (n : ℕ). AllByRecursion (λ (page : ℕ). page < n) (footprint later)) (sym count)
        (subst (λ (l : List ℕ). AllByRecursion (λ (page : ℕ). page < g.count old) l) (sym same_feet) held.held.held.below);
    two = two_same gone tree.0 (tree.1 ∷ []) (top.other ∷ []) alone held.held.held.two;
  }

  spelled : AreSpelled (items_of lost.leaves) (without gone rows)
  spelled = strips_all gone (leaves tree) lost.leaves lost.strips rows held.held.spelled

  frees : IsFreeList (g.map new) (g.count new) free
  frees =
      feet_of.free_list_same (g.map old) (g.map new) (g.count old) (g.count new) free zero_same
      (feet_of.all_same (g.map old) (g.map new) feet free changes (free_some (g.map old) held.frees.first free held.frees.chain) (feet_of.apart_each feet free held.apart))
      (omega (arith, count)) held.frees

  pub lost_rows : HoldsRows g new root (without gone rows) feet free × KeepsPages g old new feet free feet free
  lost_rows = (
    record {
      held = record {
        tree = later;
        held = holds;
        stand = held.held.stand ∙ sym same_feet;
        spelled = subst (λ (l : List Leaf). AreSpelled (items_of l) (without gone rows)) (sym later_leaves) spelled;
        rising = filter_rising _ rows held.held.rising;
        keyed = keyed_same gone tree.0 None None tree.1 top.other top.same held.held.keyed;
      };
      frees = frees;
      apart = held.apart;
    },
    feet_of.keeps_of g old new feet free feet free (omega (arith, count))
        (λ n some outside. changes n some (feet_of.all_left (λ (m : ℕ). n ≢ m) feet feet outside))
        (feet_of.header_same (g.map old) (g.map old) (g.map new) (feet_of.header_none (g.map old)) zero_same)
        frees
        (feet_of.same_pages (feet ++ free ++ grown (g.count old) (g.count new)) (feet ++ free)
        (ap (λ (l : List ℕ). feet ++ free ++ l) (feet_of.same_count (g.count old) (g.count new) (sym count)) ∙ append-nil (feet ++ free))),
  )

  pub lost_empty : empty ≡ true ↔ without gone rows ≡ []
  lost_empty =
      let some = spelled_some (items_of lost.leaves) (without gone rows) spelled in
      (λ e. some.0 (lost.none.0 e), λ e. lost.none.1 (some.1 e))
