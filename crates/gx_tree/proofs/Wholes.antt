-- A tree that is changed, from its root page.
use Rattle.std.proofs.Common.{◌≡◌, ◌≢◌, ℕ, zero, suc, ◌+◌, ◌<◌, ◌≤◌, List, [], ◌∷◌, ◌++◌, length, map, Option, Some, None, refl, sym, ◌∙◌, ap, subst, arith}
use Rattle.std.specs.List.{AllByRecursion}
use Rattle.gx_pages.specs.declared.store.Pages.{Ghosts}
use Rattle.gx_pages.specs.Frees.{IsApart}
use Rattle.gx_pages.specs.Footprints.{KeepsPages}
use Rattle.gx_pages.proofs.Footprints as feet
use Rattle.gx_tree.specs.declared.changing.Sibling.{Sibling}
use Rattle.gx_tree.specs.Changing.{Begins, Changed, Edited, Ends, Pair, Raised, beside}
use Rattle.gx_tree.specs.Orders.{IsKeyed, Keys, Order, next}
use Rattle.gx_tree.specs.Trees.{HaveTwo, Holds, HoldsBeside, Node, Stand, Tree, entries, entries_of, footprint, named, page_of, pages_of, slots_of}
use Rattle.gx_tree.proofs.Kids.{kids}
use Rattle.gx_tree.proofs.Recursion.{begins_same, ends_from}

pub tree_begins : {P : Type 0} (g : Ghosts P) (pages : P) (order : Order) (own : List ℕ) (allows : List ℕ → Type 0) (kind root : ℕ) (tree : Tree) (free : List ℕ) → HoldsBeside g pages kind root tree free → IsKeyed order tree.0 None None tree.1
    → order.IsKey own → AllByRecursion allows (entries tree) → Begins g pages order own allows kind tree.0 root None None tree.1 free
tree_begins g pages order own allows kind root tree free held keyed key allowed = record {
  begins = held.held.begins;
  stand = held.held.stand;
  two = held.held.two;
  keyed = keyed;
  key = key;
  from = tt;
  under = tt;
  allowed = allowed;
  below = held.held.below;
  frees = held.frees;
  apart = held.apart;
}

no_right : (level : ℕ) (right : List (List ℕ × Node level)) → named level right ≡ [] → right ≡ []
no_right level [] none = refl
no_right level (x ∷ right) none = absurd (let e = ap (λ (l : List (List ℕ × ℕ)). length l) none in omega (arith, e))

-- one page on the right
record OneRight (level : ℕ) (right : List (List ℕ × Node level)) (s : Sibling) : Type 0 where
  pub other : Node level
  pub is : right ≡ (s.key, other) ∷ []
  pub page : page_of level other ≡ s.page

first_key : List (List ℕ × ℕ) → List ℕ
first_key [] = []
first_key (y ∷ ys) = y.0

first_page : List (List ℕ × ℕ) → ℕ
first_page [] = 0
first_page (y ∷ ys) = y.1

one_right : (level : ℕ) (right : List (List ℕ × Node level)) (s : Sibling) → named level right ≡ (s.key, s.page) ∷ [] → OneRight level right s
unfolding first_key first_page
one_right level [] s is = absurd (let e = ap (λ (l : List (List ℕ × ℕ)). length l) is in omega (arith, e))
one_right level (x ∷ []) s is = record {
  other = x.1;
  is = ap (λ (k : List ℕ). (k, x.1) ∷ []) (ap (λ (l : List (List ℕ × ℕ)). first_key l) is);
  page = ap (λ (l : List (List ℕ × ℕ)). first_page l) is;
}
one_right level (x ∷ (y ∷ right)) s is = absurd (let e = ap (λ (l : List (List ℕ × ℕ)). length l) is in omega (arith, e))

module _ {P : Type 0} (g : Ghosts P) (order : Order) (own : List ℕ) (allows : List ℕ → Type 0) (edits : List (List ℕ) → List (List ℕ) → Type 0) (kind root level : ℕ) (old mid : P) (node : Node level) (free : List ℕ)
    (begins : Begins g old order own allows kind level root None None node free) where
  abbrev own_pages : List ℕ
  own_pages = pages_of level (node ∷ [])

  all_below : AllByRecursion (λ n. n < g.count old) (own_pages ++ free)
  all_below = feet.all_join (λ (n : ℕ). n < g.count old) own_pages free begins.below begins.frees.below

  pub whole_none : Ends g old mid order edits kind level root None None node free None → Changed g old mid order edits kind root (level, node) free
  whole_none ends =
      let none = no_right level ends.right ends.named in
      let later : List (Node level) = ends.left ∷ [] in
      let same : ends.left ∷ kids level ends.right ≡ ends.left ∷ [] = ap (λ (r : List (List ℕ × Node level)). ends.left ∷ kids level r) none in
      let keeps : KeepsPages g old mid own_pages free (pages_of level (ends.left ∷ [])) ends.rest = subst (λ (l : List (Node level)). KeepsPages g old mid own_pages free (pages_of level l) ends.rest) same ends.keeps in
      let apart = feet.kept_apart g old mid own_pages free (pages_of level (ends.left ∷ [])) ends.rest keeps begins.apart all_below in
      record {
        later = (level, ends.left);
        rest = ends.rest;
        held = record {
          held = record {
            stand = subst (λ (l : List (Node level)). Stand (g.map mid) kind level l) same ends.stand;
            begins = ends.begins;
            apart = feet.apart_left (pages_of level (ends.left ∷ [])) ends.rest apart;
            below = subst (λ (l : List (Node level)). AllByRecursion (λ (n : ℕ). n < g.count mid) (pages_of level l)) same ends.below;
            two = subst (λ (l : List (Node level)). HaveTwo level l) same ends.two;
          };
          frees = ends.keeps.frees;
          apart = apart;
        };
        keyed = subst (λ (r : List (List ℕ × Node level)). IsKeyed order level None (next None r) ends.left) none ends.keyed;
        keeps = keeps;
        edited = subst (λ (l : List (Node level)). Edited edits (entries_of level (node ∷ [])) (entries_of level l)) same ends.edited;
      }

  module _ (s : Sibling) (ends : Ends g old mid order edits kind level root None None node free (Some s)) where
    right : OneRight level ends.right s
    right = one_right level ends.right s ends.named

    pub other : Node level
    other = right.other

    same : ends.left ∷ kids level ends.right ≡ ends.left ∷ right.other ∷ []
    same = ap (λ (r : List (List ℕ × Node level)). ends.left ∷ kids level r) right.is

    both_keeps : KeepsPages g old mid own_pages free (pages_of level (ends.left ∷ right.other ∷ [])) ends.rest
    both_keeps = subst (λ (l : List (Node level)). KeepsPages g old mid own_pages free (pages_of level l) ends.rest) same ends.keeps

    pub whole_pair : Pair g mid order kind level root ends.left s.key other s.page ends.rest
    unfolding other
    whole_pair = record {
      begins = ends.begins;
      follows = right.page;
      stand = subst (λ (l : List (Node level)). Stand (g.map mid) kind level l) same ends.stand;
      two = subst (λ (l : List (Node level)). HaveTwo level l) same ends.two;
      keyed = subst (λ (r : List (List ℕ × Node level)). IsKeyed order level None (next None r) ends.left) right.is ends.keyed;
      others = subst (λ (r : List (List ℕ × Node level)). Keys order (IsKeyed order level) None None r) right.is ends.others;
      below = subst (λ (l : List (Node level)). AllByRecursion (λ (n : ℕ). n < g.count mid) (pages_of level l)) same ends.below;
      frees = ends.keeps.frees;
      apart = feet.kept_apart g old mid own_pages free (pages_of level (ends.left ∷ right.other ∷ [])) ends.rest both_keeps begins.apart all_below;
      some = ends.full (let e = ap (λ (r : List (List ℕ × Node level)). length r) right.is in omega (arith, e));
    }

    pub whole_some : (new : P) → Raised g mid new order kind level root ends.left other ends.rest → Changed g old new order edits kind root (level, node) free
    unfolding other
    whole_some new raised =
        let e = ends.edited in
        record {
          later = raised.later;
          rest = raised.rest;
          held = raised.held;
          keyed = raised.keyed;
          keeps = feet.keeps_join g old mid new own_pages free (pages_of level (ends.left ∷ right.other ∷ [])) ends.rest (footprint raised.later) raised.rest both_keeps raised.keeps;
          edited = record {
            front = e.front;
            was = e.was;
            is = e.is;
            back = e.back;
            old = e.old;
            new = raised.same ∙ ap (λ (l : List (Node level)). entries_of level l) (sym same) ∙ e.new;
            done = e.done;
          };
        }

-- the same at a tree's level
pub tree_ends : {P : Type 0} (g : Ghosts P) (order : Order) (own : List ℕ) (allows : List ℕ → Type 0) (edits : List (List ℕ) → List (List ℕ) → Type 0) (kind root : ℕ) (old mid new : P) (sibling : Option Sibling) (level : ℕ)
    → g.map mid ≡ g.map old → g.count mid ≡ g.count old
    → ((least end : Option (List ℕ)) (node : Node level) (free : List ℕ) → Begins g mid order own allows kind level root least end node free → Ends g mid new order edits kind level root least end node free sibling)
    → (tree : Tree) (free : List ℕ) → level ≡ tree.0 → Begins g old order own allows kind tree.0 root None None tree.1 free → Ends g old new order edits kind tree.0 root None None tree.1 free sibling
tree_ends g order own allows edits kind root old mid new sibling level same count does tree free is begins =
    let at_tree = subst (λ (k : ℕ). (least end : Option (List ℕ)) (node : Node k) (free : List ℕ) → Begins g mid order own allows kind k root least end node free → Ends g mid new order edits kind k root least end node free sibling) is does in
    ends_from g order own allows edits kind root old mid new tree.0 None None tree.1 free sibling same count
    (at_tree None None tree.1 free (begins_same g order own allows edits kind root old mid tree.0 None None tree.1 free same count begins))

pub tree_refused : {P : Type 0} (g : Ghosts P) (order : Order) (own : List ℕ) (allows : List ℕ → Type 0) (edits : List (List ℕ) → List (List ℕ) → Type 0) (kind root : ℕ) (old mid : P) (level : ℕ) → g.map mid ≡ g.map old → g.count mid ≡ g.count old
    → ((least end : Option (List ℕ)) (node : Node level) (free : List ℕ) → Begins g mid order own allows kind level root least end node free → ⊥)
    → (tree : Tree) (free : List ℕ) → level ≡ tree.0 → Begins g old order own allows kind tree.0 root None None tree.1 free → ⊥
tree_refused g order own allows edits kind root old mid level same count refused tree free is begins =
    let at_tree = subst (λ (k : ℕ). (least end : Option (List ℕ)) (node : Node k) (free : List ℕ) → Begins g mid order own allows kind k root least end node free → ⊥) is refused in
    at_tree None None tree.1 free (begins_same g order own allows edits kind root old mid tree.0 None None tree.1 free same count begins)

pub raise_at : {P : Type 0} (g : Ghosts P) (order : Order) (kind root : ℕ) (mid new : P) (skey : List ℕ) (second level up : ℕ) → level ≡ up
    → ((left other : Node level) (free : List ℕ) → Pair g mid order kind level root left skey other second free → Raised g mid new order kind level root left other free)
    → (left other : Node up) (free : List ℕ) → Pair g mid order kind up root left skey other second free → Raised g mid new order kind up root left other free
raise_at g order kind root mid new skey second level up is raises =
    subst (λ (k : ℕ). (left other : Node k) (free : List ℕ) → Pair g mid order kind k root left skey other second free → Raised g mid new order kind k root left other free) is raises

pub refused_at : {P : Type 0} (g : Ghosts P) (order : Order) (kind root : ℕ) (mid : P) (skey : List ℕ) (second level up : ℕ) → level ≡ up
    → ((left other : Node level) (free : List ℕ) → Pair g mid order kind level root left skey other second free → ⊥)
    → (left other : Node up) (free : List ℕ) → Pair g mid order kind up root left skey other second free → ⊥
refused_at g order kind root mid skey second level up is refused =
    subst (λ (k : ℕ). (left other : Node k) (free : List ℕ) → Pair g mid order kind k root left skey other second free → ⊥) is refused
