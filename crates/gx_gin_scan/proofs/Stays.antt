-- An index beside which another structure changes.
use Rattle.std.proofs.Common.{◌≡◌, ℕ, ◌+◌, ◌<◌, ◌≤◌, List, ◌++◌, sym, subst, ap, arith}
use Rattle.std.specs.List.{AllByRecursion}
use Rattle.gx_words.specs.PageMap.{PageMap}
use Rattle.gx_pages.specs.declared.store.Pages.{Ghosts}
use Rattle.gx_pages.specs.Footprints.{KeepsPages}
use Rattle.gx_pages.specs.Frees.{IsApart}
use Rattle.gx_pages.proofs.Footprints.{all_join, apart_once, kept_beside, once_apart, times, times-append}
use Rattle.gx_gin_scan.specs.Gins.{HoldsGin, HoldsLists}
use Rattle.gx_gin_scan.specs.Lists.{Lists}
use Rattle.gx_gin_scan.proofs.Frames.{held_below, held_stays, map_stays}

pub lists_below : (map : PageMap) (count root : ℕ) (lists : Lists) (feet : List ℕ) → HoldsLists map count root lists feet → AllByRecursion (λ page. page < count) feet
lists_below map count root lists feet held =
    subst (λ (l : List ℕ). AllByRecursion (λ (page : ℕ). page < count) l) (sym held.stand)
    (all_join (λ (page : ℕ). page < count) held.keys held.trees
    (subst (λ (l : List ℕ). AllByRecursion (λ (page : ℕ). page < count) l) (sym held.held.stand) held.held.held.below)
    (held_below map count held.entries lists held.trees held.are))

pub gin_stays : {P : Type 0} (g : Ghosts P) (old new : P) (root : ℕ) (lists : Lists) (feet before free after rest : List ℕ) → HoldsGin g old root lists feet free → KeepsPages g old new before free after rest
    → IsApart (before ++ free ++ feet) → AllByRecursion (λ page. page < g.count old) before → HoldsGin g new root lists feet rest
gin_stays g old new root lists feet before free after rest gin keeps apart below =
    let part : (others : List ℕ) → ((n : ℕ) → times n others ≤ times n feet) → IsApart (before ++ free ++ others) = λ others less.
    once_apart (before ++ free ++ others) (λ n. omega (
      arith,
      less n,
      apart_once (before ++ free ++ feet) apart n,
      times-append n (before ++ free) feet,
      times-append n (before ++ free) others,
    )) in
    let counts : (n : ℕ) → times n feet ≡ times n gin.held.keys + times n gin.held.trees = λ n. omega (arith, ap (λ (l : List ℕ). times n l) gin.held.stand, times-append n gin.held.keys gin.held.trees) in
    record {
      held = record {
        entries = gin.held.entries;
        keys = gin.held.keys;
        trees = gin.held.trees;
        held = map_stays g old new before free after rest keeps root gin.held.entries gin.held.keys gin.held.held (part gin.held.keys (λ n. omega (arith, counts n)));
        are = held_stays g old new before free after rest keeps gin.held.entries lists gin.held.trees gin.held.are (part gin.held.trees (λ n. omega (arith, counts n)));
        stand = gin.held.stand;
      };
      frees = keeps.frees;
      apart =
          (let low = all_join (λ (page : ℕ). page < g.count old) (before ++ free) feet (all_join (λ (page : ℕ). page < g.count old) before free below gin.frees.below) (lists_below (g.map old) (g.count old) root lists feet gin.held) in
          let beside = kept_beside g old new before free after rest feet keeps apart low in
          once_apart (feet ++ rest) (λ n. omega (
            arith,
            apart_once (after ++ rest ++ feet) beside n,
            times-append n (after ++ rest) feet,
            times-append n after rest,
            times-append n feet rest,
          )));
    }
