-- An entry tree and the page of level 0 where a key belongs.
use Rattle.std.proofs.Common.{◌≡◌, ◌≢◌, ◌⊎◌, ⊎_elim, ℕ, zero, suc, ◌+◌, ◌<◌, ◌≤◌, List, [], ◌∷◌, ◌++◌, length, map, Option, Some, None, refl, sym, ◌∙◌, ap, subst, append_assoc, append-nil, arith}
use Rattle.std.specs.List.{AllByRecursion}
use Rattle.gx_words.specs.PageMap.{PageMap}
use Rattle.gx_pages.specs.declared.store.Pages.{Ghosts}
use Rattle.gx_pages.specs.Footprints.{KeepsPages}
use Rattle.gx_pages.specs.Frees.{IsApart}
use Rattle.gx_pages.proofs.Footprints as feet_of
use Rattle.gx_slot.specs.Slots.{Slots}
use Rattle.gx_tree.specs.Changing.{Changed, Edited}
use Rattle.gx_tree.specs.Finding.{LeafAt, Rewritten, Stands}
use Rattle.gx_tree.specs.Orders.{IsKeyed}
use Rattle.gx_tree.specs.Trees.{HoldsBeside, Node, Tree, entries, footprint, slots_of}
use Rattle.gx_tree.proofs.Dropped.{held_same}
use Rattle.gx_tree.proofs.Entries.{keyed_entries}
use Rattle.gx_tree.proofs.Nodes.{slots_level}
use Rattle.gx_tree.proofs.Seeks.{leaf_same, stands_same}
use Rattle.gx_gin_entry.specs.EntryTrees.{AreListed, AreRising, AreShorter, Entry, HasLonger, HaveEntries, HoldsEntries, HoldsMap, IsBefore, IsEntry, IsFound, IsFromKey, IsPut, IsRemoved, IsReplaced, IsUnderKey, Puts, by_key, entry_bytes, entry_of, key_bytes, key_of}
use Rattle.gx_gin_entry.specs.Keys.{lawful, less_most, rising_left, rising_right}
use Rattle.gx_gin_entry.specs.Lists.{Split, key_again, map_join, one_list, split_list}
use Rattle.gx_gin_entry.proofs.Edits.{all_round, before_other, behind_other, none_shorter}

pub map_stands : {P : Type 0} (g : Ghosts P) (pages : P) (root : ℕ) (list : List Entry) (feet : List ℕ) (held : HoldsMap (g.map pages) (g.count pages) root list feet) → Stands g pages by_key 5 held.tree.0 root None None held.tree.1
map_stands g pages root list feet held = record {
  begins = held.held.begins;
  stand = held.held.stand;
  two = held.held.two;
  keyed = held.keyed;
  below = held.held.below;
  apart = held.held.apart;
}

-- the entries before a page, those on it, and those behind it
pub record Cut (list left mid right : List Entry) (front leaf back : List (List ℕ)) : Type 0 where
  pub is : list ≡ left ++ mid ++ right
  pub front_is : front ≡ map entry_bytes left
  pub leaf_is : leaf ≡ map entry_bytes mid
  pub back_is : back ≡ map entry_bytes right

pub record Parts (list : List Entry) (front leaf back : List (List ℕ)) : Type 0 where
  pub left : List Entry
  pub mid : List Entry
  pub right : List Entry
  pub cut : Cut list left mid right front leaf back

pub parts_of : (list : List Entry) (front leaf back : List (List ℕ)) → front ++ leaf ++ back ≡ map entry_bytes list → Parts list front leaf back
parts_of list front leaf back are =
    let first = split_list (front ++ leaf) back list are in
    let second = split_list front leaf first.left first.before in
    record {
      left = second.left;
      mid = second.right;
      right = first.right;
      cut = record { is = first.cut ∙ ap (λ (l : List Entry). l ++ first.right) second.cut; front_is = second.before; leaf_is = second.behind; back_is = first.behind };
    }

module _ {P : Type 0} (g : Ghosts P) (pages : P) (root : ℕ) (list : List Entry) (feet : List ℕ) (held : HoldsMap (g.map pages) (g.count pages) root list feet) (key : List ℕ) (page : ℕ) (was : Slots)
    (leaf : LeafAt g pages by_key (key_bytes key) 5 held.tree.0 None None held.tree.1 page was) where
  abbrev pub parts : Parts list leaf.front leaf.leaf leaf.back
  parts = parts_of list leaf.front leaf.leaf leaf.back (sym leaf.cut ∙ held.spelled)

  abbrev cut : Cut list parts.left parts.mid parts.right leaf.front leaf.leaf leaf.back
  cut = parts.cut

  all_are : AllByRecursion IsEntry (parts.left ++ parts.mid ++ parts.right)
  all_are = subst (λ (l : List Entry). AllByRecursion IsEntry l) cut.is held.are

  all_rise : AreRising (parts.left ++ parts.mid ++ parts.right)
  all_rise = subst (λ (l : List Entry). AreRising l) cut.is held.rising

  left_are : AllByRecursion IsEntry parts.left
  left_are = feet_of.all_left IsEntry parts.left parts.mid (feet_of.all_left IsEntry (parts.left ++ parts.mid) parts.right all_are)

  pub mid_are : AllByRecursion IsEntry parts.mid
  mid_are = feet_of.all_right IsEntry parts.left parts.mid (feet_of.all_left IsEntry (parts.left ++ parts.mid) parts.right all_are)

  pub right_are : AllByRecursion IsEntry parts.right
  right_are = feet_of.all_right IsEntry (parts.left ++ parts.mid) parts.right all_are

  pub right_rise : AreRising parts.right
  right_rise = rising_right (parts.left ++ parts.mid) parts.right all_rise

  pub mid_listed : AreListed was.items parts.mid
  mid_listed = record {
    is = ap (λ (s : Slots). s.items) leaf.is ∙ ap (λ (l : List (List ℕ)). map (λ (i : List ℕ). Some i) l) cut.leaf_is;
    are = mid_are;
    rising = rising_right parts.left parts.mid (rising_left (parts.left ++ parts.mid) parts.right all_rise);
  }

  -- the entries on the page lie between its bounds
  pub mid_have : (have : HaveEntries leaf.from leaf.to leaf.leaf) → have.list ≡ parts.mid
  mid_have have = one_list have.list parts.mid have.are mid_are (sym have.spelled ∙ cut.leaf_is)

  same_key : key_of (key_bytes key) ≡ key
  same_key = key_again key

  pub left_before : AllByRecursion (λ e. IsBefore e.0 key) parts.left
  left_before =
      ⊎_elim
      (λ none. empty parts.left (sym cut.front_is ∙ none))
      (λ some.
      let have : HaveEntries None (Some some.0) leaf.front = some.2 in
      let same = one_list have.list parts.left have.are left_are (sym have.spelled ∙ cut.front_is) in
      let most : IsBefore key (key_of some.0) → ⊥ = subst (λ (k : List ℕ). IsBefore k (key_of some.0) → ⊥) same_key some.1 in
      subst (λ (l : List Entry). AllByRecursion (λ e. IsBefore e.0 key) l) same
      (feet_of.all_weaker (λ (e : Entry). IsBefore e.0 (key_of some.0)) (λ (e : Entry). IsBefore e.0 key) have.list (λ e less. less_most e.0 (key_of some.0) key less most) have.under))
      leaf.before
    where
      empty : (left : List Entry) → map entry_bytes left ≡ [] → AllByRecursion (λ e. IsBefore e.0 key) left
      empty [] none = tt
      empty (x ∷ left) none = absurd (let e = ap (λ (l : List (List ℕ)). length l) none in omega (arith, e))

  pub right_behind : AllByRecursion (λ e. IsBefore key e.0) parts.right
  right_behind =
      ⊎_elim
      (λ none. empty parts.right (sym cut.back_is ∙ none))
      (λ some.
      let have : HaveEntries (Some some.0) None leaf.back = some.2 in
      let same = one_list have.list parts.right have.are right_are (sym have.spelled ∙ cut.back_is) in
      let less : IsBefore key (key_of some.0) = subst (λ (k : List ℕ). IsBefore k (key_of some.0)) same_key some.1 in
      subst (λ (l : List Entry). AllByRecursion (λ e. IsBefore key e.0) l) same
      (feet_of.all_weaker (λ (e : Entry). IsBefore e.0 (key_of some.0) → ⊥) (λ (e : Entry). IsBefore key e.0) have.list (λ e most. less_most key (key_of some.0) e.0 less most) have.from))
      leaf.behind
    where
      empty : (right : List Entry) → map entry_bytes right ≡ [] → AllByRecursion (λ e. IsBefore key e.0) right
      empty [] none = tt
      empty (x ∷ right) none = absurd (let e = ap (λ (l : List (List ℕ)). length l) none in omega (arith, e))

  left_other : AllByRecursion (λ e. e.0 ≢ key) parts.left
  left_other = before_other parts.left key left_before

  right_other : AllByRecursion (λ e. e.0 ≢ key) parts.right
  right_other = behind_other parts.right key right_behind

  pub whole_other : (mid : List Entry) → AllByRecursion (λ e. e.0 ≢ key) mid → AllByRecursion (λ e. e.0 ≢ key) (parts.left ++ mid ++ parts.right)
  whole_other mid all = feet_of.all_join (λ (e : Entry). e.0 ≢ key) (parts.left ++ mid) parts.right (feet_of.all_join (λ (e : Entry). e.0 ≢ key) parts.left mid left_other all) right_other

  pub whole_found : (found : Option (List ℕ)) → IsFound parts.mid key found → IsFound list key found
  whole_found None all = subst (λ (l : List Entry). AllByRecursion (λ e. e.0 ≢ key) l) (sym cut.is) (whole_other parts.mid all)
  whole_found (Some posting) is = (
    parts.left ++ is.0,
    is.1 ++ parts.right,
    cut.is ∙ ap (λ (l : List Entry). parts.left ++ l ++ parts.right) is.2 ∙ regroup parts.left is.0 (key, posting) is.1 parts.right,
  )
    where
      regroup : (a b : List Entry) (e : Entry) (c d : List Entry) → a ++ (b ++ e ∷ c) ++ d ≡ (a ++ b) ++ e ∷ (c ++ d)
      regroup a b e c d = simp append_assoc

  pub whole_shorter : (posting : List ℕ) → AreShorter parts.mid key posting → AreShorter list key posting
  whole_shorter posting all =
      let Q : Entry → Type 0 = λ (e : Entry). e.0 ≡ key → length e.1 < length posting in
      subst (λ (l : List Entry). AreShorter l key posting) (sym cut.is)
      (feet_of.all_join Q (parts.left ++ parts.mid) parts.right (feet_of.all_join Q parts.left parts.mid (none_shorter parts.left key posting left_other) all) (none_shorter parts.right key posting right_other))

  -- the items with others on the page
  pub later_items : (mid : List Entry) (items : List (List ℕ)) → items ≡ leaf.front ++ map entry_bytes mid ++ leaf.back → items ≡ map entry_bytes (parts.left ++ mid ++ parts.right)
  later_items mid items are =
      are ∙ ap (λ (l : List (List ℕ)). l ++ map entry_bytes mid ++ leaf.back) cut.front_is ∙ ap (λ (l : List (List ℕ)). map entry_bytes parts.left ++ map entry_bytes mid ++ l) cut.back_is
      ∙ ap (λ (l : List (List ℕ)). l ++ map entry_bytes parts.right) (sym (map_join parts.left mid)) ∙ sym (map_join (parts.left ++ mid) parts.right)

  pub later_are : (mid : List Entry) → AllByRecursion IsEntry mid → AllByRecursion IsEntry (parts.left ++ mid ++ parts.right)
  later_are mid are = feet_of.all_join IsEntry (parts.left ++ mid) parts.right (feet_of.all_join IsEntry parts.left mid left_are are) right_are

  -- the entries on the page but for one, and another in its place
  pub put_in : (front : List Entry) (old posting : List ℕ) (back : List Entry) → parts.mid ≡ front ++ (key, old) ∷ back → AreListed (map (λ item. Some item) (map entry_bytes (front ++ (key, posting) ∷ back))) (front ++ (key, posting) ∷ back)
      → HaveEntries leaf.from leaf.to (map entry_bytes (front ++ (key, posting) ∷ back))
  put_in front old posting back mid_is listed =
      let have : HaveEntries leaf.from leaf.to leaf.leaf = leaf.are in
      let is : have.list ≡ front ++ ((key, old) ∷ []) ++ back = mid_have have ∙ mid_is ∙ sym (append_assoc front ((key, old) ∷ []) back) in
      let from = subst (λ (l : List Entry). AllByRecursion (IsFromKey leaf.from) l) is have.from in
      let under = subst (λ (l : List Entry). AllByRecursion (IsUnderKey leaf.to) l) is have.under in
      record {
        list = front ++ (key, posting) ∷ back;
        spelled = refl;
        are = listed.are;
        rising = listed.rising;
        from = all_round (IsFromKey leaf.from) front ((key, old) ∷ []) back (key, posting) from
            (from_same leaf.from (feet_of.all_right (IsFromKey leaf.from) front ((key, old) ∷ []) (feet_of.all_left (IsFromKey leaf.from) (front ++ ((key, old) ∷ [])) back from)).0);
        under = all_round (IsUnderKey leaf.to) front ((key, old) ∷ []) back (key, posting) under
            (under_same leaf.to (feet_of.all_right (IsUnderKey leaf.to) front ((key, old) ∷ []) (feet_of.all_left (IsUnderKey leaf.to) (front ++ ((key, old) ∷ [])) back under)).0);
      }
    where
      from_same : (least : Option (List ℕ)) → IsFromKey least (key, old) → IsFromKey least (key, posting)
      from_same None has = tt
      from_same (Some l) has = has

      under_same : (end : Option (List ℕ)) → IsUnderKey end (key, old) → IsUnderKey end (key, posting)
      under_same None has = tt
      under_same (Some l) has = has

  -- the entries on the page without one
  pub take_out : (front : List Entry) (old : List ℕ) (back : List Entry) → parts.mid ≡ front ++ (key, old) ∷ back → HaveEntries leaf.from leaf.to (map entry_bytes (front ++ back))
  take_out front old back mid_is =
      let have : HaveEntries leaf.from leaf.to leaf.leaf = leaf.are in
      let is = mid_have have ∙ mid_is in
      let rising = subst (λ (l : List Entry). AreRising l) is have.rising in
      record {
        list = front ++ back;
        spelled = refl;
        are = less IsEntry (subst (λ (l : List Entry). AllByRecursion IsEntry l) is have.are);
        rising = rises front rising;
        from = less (IsFromKey leaf.from) (subst (λ (l : List Entry). AllByRecursion (IsFromKey leaf.from) l) is have.from);
        under = less (IsUnderKey leaf.to) (subst (λ (l : List Entry). AllByRecursion (IsUnderKey leaf.to) l) is have.under);
      }
    where
      less : (Q : Entry → Type 0) → AllByRecursion Q (front ++ (key, old) ∷ back) → AllByRecursion Q (front ++ back)
      less Q all = feet_of.all_join Q front back (feet_of.all_left Q front ((key, old) ∷ back) all) (feet_of.all_right Q front ((key, old) ∷ back) all).1

      rises : (front : List Entry) → AreRising (front ++ (key, old) ∷ back) → AreRising (front ++ back)
      rises [] rising = rising.1
      rises (x ∷ front) rising = (
        feet_of.all_join (λ (e : Entry). IsBefore x.0 e.0) front back (feet_of.all_left (λ (e : Entry). IsBefore x.0 e.0) front ((key, old) ∷ back) rising.0)
            (feet_of.all_right (λ (e : Entry). IsBefore x.0 e.0) front ((key, old) ∷ back) rising.0).1,
        rises front rising.1,
      )

pub regroup_put : (a b c d : List Entry) (e : List Entry) → (a ++ ((b ++ e) ++ c)) ++ d ≡ ((a ++ b) ++ e) ++ (c ++ d)
regroup_put a b c d e = simp append_assoc

-- the tree afterwards, as a map
pub later_map : {P : Type 0} (g : Ghosts P) (new : P) (root : ℕ) (later : Tree) (free : List ℕ) (list : List Entry) → (held : HoldsBeside g new 5 root later free) → IsKeyed by_key later.0 None None later.1
    → entries later ≡ map entry_bytes list → AllByRecursion IsEntry list → HoldsEntries g new root list (footprint later) free
later_map g new root later free list held keyed spelled are =
    let have : HaveEntries None None (entries later) = keyed_entries by_key lawful later.0 None None later.1 keyed in
    let same : have.list ≡ list = one_list have.list list have.are are (sym have.spelled ∙ spelled) in
    record {
      held = record {
        tree = later;
        held = held.held;
        stand = refl;
        spelled = spelled;
        are = are;
        rising = subst (λ (l : List Entry). AreRising l) same have.rising;
        keyed = keyed;
      };
      frees = held.frees;
      apart = held.apart;
    }

pub leaf_level : (level : ℕ) (top : Slots) (tree : Tree) → top ≡ slots_of 5 tree.0 tree.1 → level ≡ top.level → level ≡ tree.0
leaf_level level top tree is same = same ∙ ap (λ (s : Slots). s.level) is ∙ slots_level 5 tree.0 tree.1

module _ {P : Type 0} (g : Ghosts P) (old mid : P) (root level : ℕ) (top : Slots) (list : List Entry) (feet : List ℕ) (held : HoldsMap (g.map old) (g.count old) root list feet) (map_same : g.map mid ≡ g.map old) (count_same : g.count mid ≡ g.count old)
    (is : top ≡ slots_of 5 held.tree.0 held.tree.1) (level_same : level ≡ top.level) where
  pub leaf_refused : ((least end : Option (List ℕ)) (node : Node level) → Stands g mid by_key 5 level root least end node → top ≡ slots_of 5 level node → ⊥) → ⊥
  leaf_refused refused =
      let P : ℕ → Type 0 = λ (n : ℕ). (least end : Option (List ℕ)) (node : Node n) → Stands g mid by_key 5 n root least end node → top ≡ slots_of 5 n node → ⊥ in
      subst P (leaf_level level top held.tree is level_same) refused None None held.tree.1
      (stands_same g old mid by_key 5 held.tree.0 root None None held.tree.1 map_same count_same (map_stands g old root list feet held)) is

  pub leaf_found : (last : P) (key : List ℕ) (page : ℕ) (found : Slots) → g.map mid ≡ g.map last
      → ((least end : Option (List ℕ)) (node : Node level) → Stands g mid by_key 5 level root least end node → top ≡ slots_of 5 level node → LeafAt g mid by_key (key_bytes key) 5 level least end node page found)
      → LeafAt g last by_key (key_bytes key) 5 held.tree.0 None None held.tree.1 page found
  leaf_found last key page found same finds =
      let P : ℕ → Type 0 = λ (n : ℕ). (least end : Option (List ℕ)) (node : Node n) → Stands g mid by_key 5 n root least end node → top ≡ slots_of 5 n node → LeafAt g mid by_key (key_bytes key) 5 n least end node page found in
      leaf_same g last mid by_key (key_bytes key) 5 held.tree.0 None None held.tree.1 page found same
      (subst P (leaf_level level top held.tree is level_same) finds None None held.tree.1
      (stands_same g old mid by_key 5 held.tree.0 root None None held.tree.1 map_same count_same (map_stands g old root list feet held)) is)

-- a map that is the same later
pub entries_same : {P : Type 0} (g : Ghosts P) (old mid : P) (root : ℕ) (list : List Entry) (feet free : List ℕ) → g.map mid ≡ g.map old → g.count mid ≡ g.count old → (held : HoldsEntries g old root list feet free)
    → HoldsBeside g mid 5 root held.held.tree free
entries_same g old mid root list feet free same count held = record {
  held = held_same (g.map old) (g.map mid) (g.count old) (g.count mid) 5 root held.held.tree same count held.held.held;
  frees = feet_of.free_list_at (g.map mid) (g.map old) (g.count mid) (g.count old) free same count held.frees;
  apart = subst (λ (l : List ℕ). IsApart (l ++ free)) held.held.stand held.apart;
}

-- the map at later pages that are the same
abbrev pub map_same_later : {P : Type 0} (g : Ghosts P) (old mid : P) (root : ℕ) (list : List Entry) (feet : List ℕ) → g.map mid ≡ g.map old → g.count mid ≡ g.count old → HoldsMap (g.map old) (g.count old) root list feet → HoldsMap (g.map mid) (g.count mid) root list feet
map_same_later g old mid root list feet same count held = record {
  tree = held.tree;
  held = held_same (g.map old) (g.map mid) (g.count old) (g.count mid) 5 root held.tree same count held.held;
  stand = held.stand;
  spelled = held.spelled;
  are = held.are;
  rising = held.rising;
  keyed = held.keyed;
}
