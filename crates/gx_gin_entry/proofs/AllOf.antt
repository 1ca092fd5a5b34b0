-- A walk that reads entries.
use Rattle.std.proofs.Common.{◌≡◌, ℕ, zero, suc, ◌+◌, ◌<◌, ◌≤◌, List, [], ◌∷◌, ◌++◌, length, map, take, drop, get_or, Some, refl, sym, ◌∙◌, ap, subst, append_assoc, append-nil, length-append, arith}
use Rattle.std.specs.List.{AllByRecursion}
use Rattle.std.proofs.lemmas.List.{length-map}
use Rattle.gx_words.specs.PageMap.{PageMap}
use Rattle.gx_pages.proofs.Footprints.{all_left, all_right}
use Rattle.gx_slot.specs.Slots.{Slots}
use Rattle.gx_tree.specs.Trees.{IsOn, Leaf, Tree, entries, items_of, leaves, numbers, slots_of, uppers_of}
use Rattle.gx_tree.proofs.Nodes.{slots_level, stand_leaves}
use Rattle.gx_tree.proofs.Dropped.{flat_tree}
use Rattle.gx_tree.proofs.Walks.{flat_items, leaf, leaf_left}
use Rattle.gx_gin_entry.specs.EntryTrees.{AreListed, AreRising, Entry, HoldsMap, IsEntry, entry_bytes}
use Rattle.gx_gin_entry.specs.Keys.{rising_left, rising_right}
use Rattle.gx_gin_entry.specs.Lists.{Split, split_list}

-- the entry at a place of a list
pub record Here (list : List Entry) (place : ℕ) : Type 0 where
  pub front : List Entry
  pub entry : Entry
  pub back : List Entry
  pub cut : list ≡ front ++ entry ∷ back
  pub at : place ≡ length front
  pub before : take place list ≡ front
  pub more : take (place + 1) list ≡ front ++ entry ∷ []

pub entry_here : (list : List Entry) (place : ℕ) → place < length list → Here list place
entry_here [] place below = absurd (omega (arith, below))
entry_here (entry ∷ list) zero below = record { front = []; entry = entry; back = list; cut = refl; at = refl; before = refl; more = refl }
entry_here (entry ∷ list) (suc place) below =
    let rest = entry_here list place (omega (arith, below)) in
    let e : suc place + 1 ≡ suc (place + 1) = omega arith in
    record {
      front = entry ∷ rest.front;
      entry = rest.entry;
      back = rest.back;
      cut = ap (λ (l : List Entry). entry ∷ l) rest.cut;
      at = (let a = rest.at in omega (arith, a));
      before = ap (λ (l : List Entry). entry ∷ l) rest.before;
      more = ap (λ (n : ℕ). take n (entry ∷ list)) e ∙ ap (λ (l : List Entry). entry ∷ l) rest.more;
    }

pub listed_length : (its : List _) (list : List Entry) → AreListed its list → length its ≡ length list
listed_length its list are = ap (λ (l : List _). length l) are.is ∙ length-map (map entry_bytes list) (λ (item : List ℕ). Some item) ∙ length-map list entry_bytes

pub take_all : (list : List Entry) (n : ℕ) → length list ≤ n → take n list ≡ list
take_all [] zero past = refl
take_all [] (suc n) past = refl
take_all (entry ∷ list) zero past = absurd (omega (arith, past))
take_all (entry ∷ list) (suc n) past = ap (λ (l : List Entry). entry ∷ l) (take_all list n (omega (arith, past)))

pub push_more : (old now later taken : List Entry) (entry : Entry) (next : List Entry) → now ≡ old ++ taken → later ≡ now ++ entry ∷ [] → next ≡ taken ++ entry ∷ [] → later ≡ old ++ next
push_more old now later taken entry next is put more =
    put ∙ ap (λ (l : List Entry). l ++ entry ∷ []) is ∙ append_assoc old taken (entry ∷ []) ∙ ap (λ (l : List Entry). old ++ l) (sym more)

-- Some entries are read, and what is left spells the others.
pub record Lists (old now list : List Entry) (left : List (List ℕ)) : Type 0 where
  pub done : List Entry
  pub rest : List Entry
  pub is : now ≡ old ++ done
  pub cut : list ≡ done ++ rest
  pub spelled : left ≡ map entry_bytes rest
  pub are : AllByRecursion IsEntry rest
  pub rising : AreRising rest

pub lists_none : (old list : List Entry) (left : List (List ℕ)) → left ≡ map entry_bytes list → AllByRecursion IsEntry list → AreRising list → Lists old old list left
lists_none old list left spelled are rising = record { done = []; rest = list; is = sym (append-nil old); cut = refl; spelled = spelled; are = are; rising = rising }

none_left : (rest : List Entry) → [] ≡ map entry_bytes rest → rest ≡ []
none_left [] is = refl
none_left (entry ∷ rest) is = let e : length (map entry_bytes (entry ∷ rest)) ≡ 0 = sym (ap (λ (l : List (List ℕ)). length l) is) in absurd (omega (arith, e))

pub lists_all : (old now list : List Entry) (left : List (List ℕ)) → left ≡ [] → Lists old now list left → now ≡ old ++ list
lists_all old now list left none lists =
    let ends = none_left lists.rest (sym none ∙ lists.spelled) in
    lists.is ∙ ap (λ (l : List Entry). old ++ l) (sym (append-nil lists.done) ∙ ap (λ (l : List Entry). lists.done ++ l) (sym ends) ∙ sym lists.cut)

module _ (now : PageMap) (list : List ℕ) (row : List Leaf) (are : list ≡ numbers row) (on : AllByRecursion (IsOn now 5 0) row) (i page : ℕ) (below : i < length list) (at : get_or list i page ≡ page)
    (old to entries : List Entry) (lists : Lists old to entries (items_of (drop i row))) where
  abbrev here : Leaf
  here = leaf now 5 list row are on i page below at

  abbrev pub parts : Split here.1 (items_of (drop (i + 1) row)) lists.rest
  parts = split_list here.1 (items_of (drop (i + 1) row)) lists.rest (sym (leaf_left now 5 list row are on i page below at) ∙ lists.spelled)

  pub listed_here : (its : List _) → its ≡ map (λ item. Some item) here.1 → AreListed its parts.left
  listed_here its is = record {
    is = is ∙ ap (λ (l : List (List ℕ)). map (λ (item : List ℕ). Some item) l) parts.before;
    are = all_left IsEntry parts.left parts.right (subst (λ (l : List Entry). AllByRecursion IsEntry l) parts.cut lists.are);
    rising = rising_left parts.left parts.right (subst (λ (l : List Entry). AreRising l) parts.cut lists.rising);
  }

  pub lists_leaf : (later : List Entry) → later ≡ to ++ parts.left → Lists old later entries (items_of (drop (i + 1) row))
  lists_leaf later pushed = record {
    done = lists.done ++ parts.left;
    rest = parts.right;
    is = pushed ∙ ap (λ (l : List Entry). l ++ parts.left) lists.is ∙ append_assoc old lists.done parts.left;
    cut = lists.cut ∙ ap (λ (l : List Entry). lists.done ++ l) parts.cut ∙ sym (append_assoc lists.done parts.left parts.right);
    spelled = parts.behind;
    are = all_right IsEntry parts.left parts.right (subst (λ (l : List Entry). AllByRecursion IsEntry l) parts.cut lists.are);
    rising = rising_right parts.left parts.right (subst (λ (l : List Entry). AreRising l) parts.cut lists.rising);
  }

-- an entry tree as a tree of pages
module _ (now : PageMap) (count root : ℕ) (list : List Entry) (feet : List ℕ) (held : HoldsMap now count root list feet) where
  pub leaves_on : AllByRecursion (IsOn now 5 0) (leaves held.tree)
  leaves_on = stand_leaves now 5 held.tree.0 (held.tree.1 ∷ []) held.held.stand

  pub leaves_below : AllByRecursion (λ page. page < count) (numbers (leaves held.tree))
  leaves_below = all_right (λ (page : ℕ). page < count) (uppers_of held.tree.0 (held.tree.1 ∷ [])) (numbers (leaves held.tree)) held.held.below

  pub feet_len : length feet ≡ length (uppers_of held.tree.0 (held.tree.1 ∷ [])) + length (numbers (leaves held.tree))
  feet_len = ap (λ (l : List ℕ). length l) held.stand ∙ length-append (uppers_of held.tree.0 (held.tree.1 ∷ [])) (numbers (leaves held.tree))

  module _ (found : Slots) (is : found ≡ slots_of 5 held.tree.0 held.tree.1) (flat : found.level ≡ 0) where
    level_zero : held.tree.0 ≡ 0
    level_zero = sym (slots_level 5 held.tree.0 held.tree.1) ∙ ap (λ (s : Slots). s.level) (sym is) ∙ flat

    pub root_listed : AreListed found.items list
    root_listed = record {
      is = flat_items 5 found held.tree is level_zero ∙ ap (λ (l : List (List ℕ)). map (λ (item : List ℕ). Some item) l) held.spelled;
      are = held.are;
      rising = held.rising;
    }

    pub root_feet : length feet ≡ 1
    root_feet = ap (λ (l : List ℕ). length l) (held.stand ∙ sym (flat_tree now count 5 root found held.tree held.held is flat))
