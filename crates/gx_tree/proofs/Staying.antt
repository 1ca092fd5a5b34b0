-- A tree on pages that stay.
use Rattle.std.proofs.Common.{◌≡◌, ◌≢◌, ℕ, zero, suc, ◌+◌, ◌<◌, ◌≤◌, List, [], ◌∷◌, ◌++◌, map, Some, refl, sym, ◌∙◌, ap, subst, arith}
use Rattle.std.specs.List.{AllByRecursion}
use Rattle.gx_words.specs.PageMap.{PageMap}
use Rattle.gx_pages.specs.declared.store.Pages.{Ghosts}
use Rattle.gx_pages.specs.Frees.{IsApart}
use Rattle.gx_pages.specs.Footprints.{IsOutside, KeepsPages}
use Rattle.gx_pages.proofs.Footprints as feet
use Rattle.gx_tree.specs.Dropping.{IsKind}
use Rattle.gx_tree.specs.Trees.{Holds, IsOn, Leaf, Node, Stand, Tree, children, footprint, leaves_of, numbers, page_of, pages_of}
use Rattle.gx_tree.proofs.Dropped.{pages_kind}
use Rattle.gx_tree.proofs.Nodes.{pages_suc, row_all}

module _ (old new : PageMap) (kind : ℕ) where
  on_stays : (level : ℕ) (top : Node level) → new (page_of level top) ≡ old (page_of level top) → IsOn old kind level top → IsOn new kind level top
  on_stays level top same on = record { some = on.some; is = same ∙ on.is; fits = on.fits }

  row_stays : (level : ℕ) (nodes : List (Node level)) → AllByRecursion (λ page. new page ≡ old page) (map (page_of level) nodes) → AllByRecursion (IsOn old kind level) nodes → AllByRecursion (IsOn new kind level) nodes
  row_stays level [] same on = tt
  row_stays level (top ∷ nodes) same on = (on_stays level top same.0 on.0, row_stays level nodes same.1 on.1)

  pub stand_stays : (level : ℕ) (nodes : List (Node level)) → AllByRecursion (λ page. new page ≡ old page) (pages_of level nodes) → Stand old kind level nodes → Stand new kind level nodes
  stand_stays zero nodes same stand = row_stays zero nodes same stand
  stand_stays (suc level) nodes same stand = (
    row_stays (suc level) nodes (row_all (λ (page : ℕ). new page ≡ old page) (suc level) nodes same) stand.0,
    stand_stays level (children level nodes)
        (feet.all_right (λ (page : ℕ). new page ≡ old page) (map (λ (top : Node (suc level)). top.0) nodes) (pages_of level (children level nodes))
        (subst (λ (l : List ℕ). AllByRecursion (λ (page : ℕ). new page ≡ old page) l) (pages_suc level nodes) same)) stand.1,
  )

module _ {P : Type 0} (g : Ghosts P) (old new : P) (before free after rest : List ℕ) (keeps : KeepsPages g old new before free after rest) where
  pub each_same : (kind : ℕ) (pages : List ℕ) → AllByRecursion (IsKind (g.map old) (g.count old) kind) pages → AllByRecursion (λ page. IsOutside page (before ++ free)) pages
      → AllByRecursion (λ page. g.map new page ≡ g.map old page) pages
  each_same kind [] are outside = tt
  each_same kind (page ∷ pages) are outside = (keeps.others page are.0.some are.0.below outside.0, each_same kind pages are.1 outside.1)

  pub stays : (kind root : ℕ) (tree : Tree) → Holds (g.map old) (g.count old) kind root tree → IsApart (before ++ free ++ footprint tree) → Holds (g.map new) (g.count new) kind root tree
  stays kind root tree held apart = record {
    stand = stand_stays (g.map old) (g.map new) kind tree.0 (tree.1 ∷ [])
        (each_same kind (footprint tree) (pages_kind (g.map old) (g.count old) kind tree.0 (tree.1 ∷ []) held.stand held.below) (feet.apart_each (before ++ free) (footprint tree) apart)) held.stand;
    begins = held.begins;
    apart = held.apart;
    below = feet.all_weaker (λ (page : ℕ). page < g.count old) (λ (page : ℕ). page < g.count new) (footprint tree) (λ page few. let more = keeps.grows in omega (arith, few, more)) held.below;
    two = held.two;
  }
