-- A step down to the page of level 0 where a key belongs.
use Rattle.std.proofs.Common.{◌≡◌, ◌≢◌, ◌⊎◌, ℕ, zero, suc, ◌+◌, ◌-◌, ◌^◌, ◌<◌, ◌≤◌, List, [], ◌∷◌, ◌++◌, length, map, get_or, Option, Some, None, refl, sym, ◌∙◌, ap, subst, length-append, arith}
use Rattle.std.specs.List.{AllByRecursion}
use Rattle.std.proofs.lemmas.List.{length-map}
use Rattle.gx_words.specs.PageMap.{PageMap}
use Rattle.gx_pages.specs.declared.store.Pages.{Ghosts}
use Rattle.gx_pages.proofs.Footprints as feet
use Rattle.gx_slot.specs.Slots.{Fits, Slots, spelling}
use Rattle.gx_tree.specs.Changing.{AreLinks, Chosen}
use Rattle.gx_tree.specs.Finding.{LeafAt, Later, Stands}
use Rattle.gx_tree.specs.Orders.{IsKeyed, IsLawful, Order, next}
use Rattle.gx_tree.specs.Trees.{IsOn, LacksPage, Node, Stand, link, named, page_of, pages_of, slots_of}
use Rattle.gx_tree.proofs.Finds.{child_stands, leaf_under}
use Rattle.gx_tree.proofs.Keyed.{all_keys}
use Rattle.gx_tree.proofs.Kids.{kids, node_times}
use Rattle.gx_tree.proofs.Lists.{all_unmap}
use Rattle.gx_tree.proofs.Nodes.{root_below, root_on, row_all, slots_kind, slots_level}
use Rattle.gx_tree.proofs.Recursion.{Way, way}
use Rattle.gx_tree.proofs.Upper.{links_all}
use Rattle.gx_tree.proofs.Widening.{all_times, times_all}

module _ {P : Type 0} (g : Ghosts P) (order : Order) (law : IsLawful order) (own : List ℕ) (kind page level : ℕ) (old : P) (bound : g.count old ≤ 2 ^ 50) (found : Slots) (slot : ℕ) (least end : Option (List ℕ)) (node : Node (suc level))
    (stands : Stands g old order kind (suc level) page least end node) (is : found ≡ slots_of kind (suc level) node) where
  pub items_are : found.items ≡ map link (named level node.1)
  items_are = ap (λ (s : Slots). s.items) is

  pub page_links : AreLinks order (named level node.1)
  page_links =
      links_all order level (g.count old) node.1 bound (all_keys order law (IsKeyed order level) least end node.1 stands.keyed)
      (all_unmap (λ (x : List ℕ × Node level). x.1) (λ (x : Node level). page_of level x < g.count old) node.1
      (all_unmap (page_of level) (λ (n : ℕ). n < g.count old) (kids level node.1) (row_all (λ (n : ℕ). n < g.count old) level (kids level node.1)
      (all_times (λ (n : ℕ). n < g.count old) (pages_of level (kids level node.1))
      (λ n some. times_all (λ (m : ℕ). m < g.count old) (pages_of (suc level) (node ∷ [])) stands.below n (let a = node_times n level node.0 node.1 in omega (arith, a, some)))))))

  pub page_fits : AllByRecursion (λ item. item.1 < 2 ^ 64) (named level node.1)
  page_fits = feet.all_weaker (λ (item : List ℕ × ℕ). order.IsKey item.0 × (item.1 < 2 ^ 64)) (λ (item : List ℕ × ℕ). item.1 < 2 ^ 64) (named level node.1) (λ item both. both.1) page_links

  pub page_some : 0 < length (named level node.1)
  page_some = let two = stands.two.0.0 in omega (arith, two, length-map {B = List ℕ × ℕ} node.1 (λ (x : List ℕ × Node level). (x.0, page_of level x.1)))

  module _ (chosen : (items : List (List ℕ × ℕ)) → found.items ≡ map link items → Chosen order own items slot) where
    pub the_way : Way order own level node.1 slot
    the_way = way order own level node.1 slot (chosen (named level node.1) items_are)

    pub slot_below : slot < length (named level node.1)
    slot_below =
        let ch = chosen (named level node.1) items_are in
        let p = ch.place in
        let size = ap (λ (l : List (List ℕ × ℕ)). length l) ch.cut in
        omega (arith, p, size, length-append ch.front (ch.item ∷ ch.back))

    module _ (child : ℕ) (reads : (items : List (List ℕ × ℕ)) (front : List ℕ) (c : ℕ) → found.items ≡ map link items → AllByRecursion (λ item. item.1 < 2 ^ 64) items → slot < length items → Some child ≡ Some (get_or items slot (front, c)).1) where
      child_is : child ≡ page_of level the_way.item.1
      child_is =
          let e = reads (named level node.1) [] 0 items_are page_fits slot_below in
          let f : child ≡ (get_or (named level node.1) slot ([], 0)).1 = cc in
          f ∙ ap (λ (x : List ℕ × ℕ). x.1) (the_way.is ([], 0))

      pub inner_stands : Stands g old order kind level child (Some the_way.item.0) (next end the_way.back) the_way.item.1
      inner_stands =
          subst (λ (n : ℕ). Stands g old order kind level n (Some the_way.item.0) (next end the_way.back) the_way.item.1) (sym child_is)
          (child_stands g order law own kind level page least end old node stands the_way.front the_way.item the_way.back the_way.cut)

      pub inner_is : (inner : Slots) → ((s : Slots) → g.map old child ≡ Some (spelling s) → Fits s → inner ≡ s) → inner ≡ slots_of kind level the_way.item.1
      inner_is inner one =
          let on = root_on (g.map old) kind level the_way.item.1 inner_stands.stand in
          one (slots_of kind level the_way.item.1) (ap (λ (n : ℕ). g.map old n) (sym inner_stands.begins) ∙ on.is) on.fits

      pub inner_lacks : LacksPage (g.map old) (g.count old) child kind level → ⊥
      inner_lacks lacks =
          let on = root_on (g.map old) kind level the_way.item.1 inner_stands.stand in
          lacks (slots_of kind level the_way.item.1) (ap (λ (n : ℕ). g.map old n) (sym inner_stands.begins) ∙ on.is) on.fits (slots_kind kind level the_way.item.1) (slots_level kind level the_way.item.1)
          (λ none. on.some (inner_stands.begins ∙ none)) (subst (λ (n : ℕ). n < g.count old) inner_stands.begins (root_below (λ (n : ℕ). n < g.count old) level the_way.item.1 inner_stands.below))

      pub leaf_here : (found_page : ℕ) (leaf : Slots) → LeafAt g old order own kind level (Some the_way.item.0) (next end the_way.back) the_way.item.1 found_page leaf → LeafAt g old order own kind (suc level) least end node found_page leaf
      leaf_here found_page leaf at =
          leaf_under g order law own kind level page least end old node stands the_way.front the_way.item the_way.back the_way.cut the_way.reached the_way.before found_page leaf at

-- at equal maps and counts
pub stands_same : {P : Type 0} (g : Ghosts P) (old mid : P) (order : Order) (kind level page : ℕ) (least end : Option (List ℕ)) (node : Node level) → g.map mid ≡ g.map old → g.count mid ≡ g.count old → Stands g old order kind level page least end node
    → Stands g mid order kind level page least end node
stands_same g old mid order kind level page least end node same count s = record {
  begins = s.begins;
  stand = subst (λ (m : PageMap). Stand m kind level (node ∷ [])) (sym same) s.stand;
  two = s.two;
  keyed = s.keyed;
  below = subst (λ (n : ℕ). AllByRecursion (λ (k : ℕ). k < n) (pages_of level (node ∷ []))) (sym count) s.below;
  apart = s.apart;
}

pub leaf_same : {P : Type 0} (g : Ghosts P) (old mid : P) (order : Order) (own : List ℕ) (kind level : ℕ) (least end : Option (List ℕ)) (node : Node level) (page : ℕ) (slots : Slots) → g.map mid ≡ g.map old
    → LeafAt g mid order own kind level least end node page slots → LeafAt g old order own kind level least end node page slots
leaf_same g old mid order own kind level least end node page slots same l = record {
  leaf = l.leaf;
  from = l.from;
  to = l.to;
  front = l.front;
  back = l.back;
  is = l.is;
  on = subst (λ (m : PageMap). IsOn m kind 0 (page, l.leaf)) same l.on;
  are = l.are;
  inside = l.inside;
  cut = l.cut;
  prior = l.prior;
  others = l.others;
  row = l.row;
  front_is = l.front_is;
  back_is = l.back_is;
  before = l.before;
  behind = l.behind;
  changed = λ items are. subst (λ (m : PageMap). Later order m kind level least end page node l.front l.back items) same (l.changed items are);
}
