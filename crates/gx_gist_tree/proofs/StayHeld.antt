-- A tree stays where its pages do.
use Rattle.std.proofs.Common.{◌≡◌, ◌≢◌, ℕ, ◌<◌, ◌≤◌, List, [], ◌∷◌, ◌++◌, arith}
use Rattle.std.specs.List.{AllByRecursion}
use Rattle.gx_words.specs.PageMap.{PageMap}
use Rattle.gx_pages.specs.declared.store.Pages.{Ghosts as PageGhosts}
use Rattle.gx_pages.specs.Frees.{IsApart}
use Rattle.gx_pages.specs.Footprints.{IsOutside, KeepsPages}
use Rattle.gx_pages.proofs.Footprints as feet
use Rattle.gx_gist.specs.declared.class.GistClass.{Ghosts}
use Rattle.gx_gist_tree.specs.OnPages.{Whole, Holds, HoldsBeside, footprint}
use Rattle.gx_gist_tree.proofs.StayFacts.{stands_same, stands_some}

kept_each : (old new : PageMap) (count : ℕ) (changed pages : List ℕ) → ((page : ℕ) → page ≢ 0 → page < count → IsOutside page changed → new page ≡ old page)
    → AllByRecursion (λ page. page ≢ 0) pages → AllByRecursion (λ page. page < count) pages → AllByRecursion (λ page. IsOutside page changed) pages → AllByRecursion (λ page. new page ≡ old page) pages
kept_each old new count changed [] others some below outside = tt
kept_each old new count changed (page ∷ pages) others some below outside =
    (others page some.0 below.0 outside.0, kept_each old new count changed pages others some.1 below.1 outside.1)

module _ {C V Q K : Type 0} (g : Ghosts C V Q K) (class : C) where
  pub held_same : (old new : PageMap) (count later root : ℕ) (tree : Whole K) → AllByRecursion (λ page. new page ≡ old page) (footprint tree) → count ≤ later
      → Holds g class old count root tree → Holds g class new later root tree
  held_same old new count later root tree same more held = record {
    stands = stands_same old new (g.spelling class) tree.0 tree.1 same held.stands;
    begins = held.begins;
    apart = held.apart;
    below = feet.all_weaker (λ (page : ℕ). page < count) (λ (page : ℕ). page < later) (footprint tree) (λ page here. omega (arith, here, more)) held.below;
    keys = held.keys;
    two = held.two;
    rows = held.rows;
    once = held.once;
  }

pub held_stays : {P C V Q K : Type 0} (p : PageGhosts P) (g : Ghosts C V Q K) (class : C) (old new : P) (root : ℕ) (tree : Whole K) (before free after rest : List ℕ) → HoldsBeside p g class old root tree free
    → KeepsPages p old new before free after rest → IsApart (before ++ free ++ footprint tree) → AllByRecursion (λ page. page < p.count old) before → HoldsBeside p g class new root tree rest
held_stays p g class old new root tree before free after rest beside keeps apart low =
    let mine = footprint tree in
    let held = beside.held in
    let same = kept_each (p.map old) (p.map new) (p.count old) (before ++ free) mine keeps.others (stands_some (p.map old) (g.spelling class) tree.0 tree.1 held.stands) held.below (feet.apart_each (before ++ free) mine apart) in
    let below : AllByRecursion (λ page. page < p.count old) (before ++ free ++ mine) =
    feet.all_join (λ (page : ℕ). page < p.count old) (before ++ free) mine (feet.all_join (λ (page : ℕ). page < p.count old) before free low beside.frees.below) held.below in
    let all = feet.kept_beside p old new before free after rest mine keeps apart below in
    record {
      held = held_same g class (p.map old) (p.map new) (p.count old) (p.count new) root tree same keeps.grows held;
      frees = keeps.frees;
      apart = feet.once_apart (mine ++ rest) (λ n. omega (
        arith,
        feet.times-append n mine rest,
        feet.times-append n (after ++ rest) mine,
        feet.times-append n after rest,
        feet.apart_once (after ++ rest ++ mine) all n,
      ));
    }
