-- A page of level 0 with other items.
use Rattle.std.proofs.Common.{◌≡◌, ◌≢◌, ℕ, zero, suc, ◌+◌, ◌<◌, ◌≤◌, List, [], ◌∷◌, ◌++◌, length, Option, Some, None, refl, sym, ◌∙◌, ap, subst, append-nil, arith}
use Rattle.std.specs.List.{AllByRecursion}
use Rattle.std.proofs.lemmas.Bool.{cases_lt}
use Rattle.gx_words.specs.PageMap.{PageMap, with_page}
use Rattle.gx_pages.specs.declared.store.Pages.{Ghosts}
use Rattle.gx_pages.specs.Frees.{IsApart, IsFreeList}
use Rattle.gx_pages.specs.Footprints.{IsOutside, KeepsPages, grown}
use Rattle.gx_pages.proofs.Footprints as feet
use Rattle.gx_slot.specs.Slots.{Fits, Slots, spelling}
use Rattle.gx_tree.specs.Finding.{LeafAt, Later, Rewritten, Stands}
use Rattle.gx_tree.specs.Orders.{IsKeyed, Order}
use Rattle.gx_tree.specs.Trees.{HoldsBeside, IsOn, Tree, entries, footprint, page_of, pages_of, slots_of}
use Rattle.gx_tree.proofs.Lists.{permuted}
use Rattle.gx_tree.proofs.Widening.{all_times, times_all}

-- a tree of rising keys as what stands below its root page
pub tree_stands : {P : Type 0} (g : Ghosts P) (pages : P) (order : Order) (kind root : ℕ) (tree : Tree) (free : List ℕ) → HoldsBeside g pages kind root tree free → IsKeyed order tree.0 None None tree.1
    → Stands g pages order kind tree.0 root None None tree.1
tree_stands g pages order kind root tree free held keyed = record {
  begins = held.held.begins;
  stand = held.held.stand;
  two = held.held.two;
  keyed = keyed;
  below = held.held.below;
  apart = held.held.apart;
}

module _ {P : Type 0} (g : Ghosts P) (old new : P) (order : Order) (own : List ℕ) (kind root : ℕ) (tree : Tree) (free : List ℕ) (held : HoldsBeside g old kind root tree free) (page : ℕ) (was : Slots)
    (leaf : LeafAt g old order own kind tree.0 None None tree.1 page was) where
  -- the page is one of the tree's
  among : 0 < feet.times page (footprint tree)
  among = some_times (feet.times page (footprint tree)) (λ none. leaf.inside page (feet.none_outside page (footprint tree) none) refl)
    where
      some_times : (n : ℕ) → (n ≡ 0 → ⊥) → 0 < n
      some_times zero none = absurd (none refl)
      some_times (suc n) none = omega arith

  pub page_low : page < g.count old
  page_low = times_all (λ (n : ℕ). n < g.count old) (footprint tree) held.held.below page among

  page_outside : IsOutside page free
  page_outside = feet.none_outside page free (let once = feet.apart_once (footprint tree ++ free) held.apart page in let here = among in omega (arith, once, here, feet.times-append page (footprint tree) free))

  module _ (items : List (List ℕ)) (are : order.AreIn leaf.from leaf.to items) (bytes : List ℕ) (put : g.map new ≡ with_page (g.map old) page bytes) (count : g.count new ≡ g.count old)
      (bytes_are : bytes ≡ spelling (slots_of kind 0 (page, items))) (fits : Fits (slots_of kind 0 (page, items))) where
    inner : Later order (g.map old) kind tree.0 None None page tree.1 leaf.front leaf.back items
    inner = leaf.changed items are

    on : IsOn (g.map new) kind 0 (page, items)
    on = record {
      some = leaf.on.some;
      is = ap (λ (m : PageMap). m page) put ∙ feet.with_same (g.map old) page bytes ∙ ap (λ (l : List ℕ). Some l) bytes_are;
      fits = fits;
    }

    same : (n : ℕ) → n ≢ page → g.map new n ≡ g.map old n
    same n other = ap (λ (m : PageMap). m n) put ∙ feet.with_other (g.map old) page bytes n other

    abbrev later : Tree
    later = (tree.0, (leaf.changed items are).later)

    times_same : (n : ℕ) → feet.times n (footprint later) ≡ feet.times n (footprint tree)
    times_same n = feet.times-permutation n (footprint tree) (footprint later) (leaf.changed items are).pages

    frees : IsFreeList (g.map new) (g.count new) free
    frees = feet.free_list_at (g.map new) (with_page (g.map old) page bytes) (g.count new) (g.count old) free put count (feet.free_list_put (g.map old) (g.count old) page bytes free leaf.on.some page_outside held.frees)

    pub rewritten : Rewritten g old new order kind root tree free (leaf.front ++ items ++ leaf.back)
    rewritten = record {
      later = later;
      held = record {
        held = record {
          stand = (leaf.changed items are).stand (g.map new) same on;
          begins = (leaf.changed items are).begins ∙ held.held.begins;
          apart = feet.once_apart (footprint later) (λ n. let once = feet.apart_once (footprint tree) held.held.apart n in let e = times_same n in omega (arith, once, e));
          below = all_times (λ (n : ℕ). n < g.count new) (footprint later) (λ n some.
              let low = times_all (λ (m : ℕ). m < g.count old) (footprint tree) held.held.below n (let e = times_same n in omega (arith, e, some)) in omega (arith, low, count));
          two = (leaf.changed items are).two;
        };
        frees = frees;
        apart = feet.once_apart (footprint later ++ free) (λ n.
            let once = feet.apart_once (footprint tree ++ free) held.apart n in
            let e = times_same n in
            omega (arith, once, e, feet.times-append n (footprint tree) free, feet.times-append n (footprint later) free));
      };
      keyed = (leaf.changed items are).keyed;
      keeps = feet.keeps_of g old new (footprint tree) free (footprint later) free (omega (arith, count))
          (λ n some away. same n (leaf.inside n (feet.none_outside n (footprint tree)
          (let none = feet.outside_none n (footprint tree ++ footprint later) away in omega (arith, none, feet.times-append n (footprint tree) (footprint later))))))
          (feet.header_same (g.map old) (g.map old) (g.map new) (feet.header_none (g.map old)) (same 0 (λ is. leaf.on.some (sym is))))
          frees
          (permuted (footprint tree ++ free ++ grown (g.count old) (g.count new)) (footprint later ++ free) (λ n.
          let e = times_same n in
          let none = ap (λ (l : List ℕ). feet.times n l) (feet.same_count (g.count old) (g.count new) (sym count)) in
          omega (
            arith,
            e,
            none,
            feet.times-append n (footprint tree ++ free) (grown (g.count old) (g.count new)),
            feet.times-append n (footprint tree) free,
            feet.times-append n (footprint later) free,
          )));
      has = (leaf.changed items are).has;
    }
