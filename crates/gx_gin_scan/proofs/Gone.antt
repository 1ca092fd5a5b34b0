-- An index that is given back.
use Rattle.std.proofs.Common.{◌≡◌, ℕ, ◌<◌, List, [], ◌++◌, sym, ◌∙◌, subst, append-nil, arith}
use Rattle.std.specs.List.{AllByRecursion}
use Rattle.gx_words.specs.PageMap.{PageMap}
use Rattle.gx_pages.specs.declared.store.Pages.{Ghosts}
use Rattle.gx_pages.specs.Footprints.{KeepsPages}
use Rattle.gx_pages.specs.Frees.{IsApart, IsFreeList}
use Rattle.gx_pages.proofs.Footprints.{all_join, apart_once, free_list_at, keeps_from, keeps_join, kept_beside, once_apart, times-append}
use Rattle.gx_gin_entry.specs.EntryTrees.{Entry, HoldsEntries, HoldsMap}
use Rattle.gx_gin_scan.specs.Gins.{AreHeld, HoldsGin}
use Rattle.gx_gin_scan.specs.Lists.{Lists}
use Rattle.gx_gin_scan.proofs.Frames.{held_below, keeps_within, map_stays}
use Rattle.gx_gin_scan.proofs.Listed.{held_at}

module _ {P : Type 0} (g : Ghosts P) (old : P) (root : ℕ) (lists : Lists) (feet free : List ℕ) (gin : HoldsGin g old root lists feet free) where
  abbrev keys : List ℕ
  keys = gin.held.keys

  abbrev trees : List ℕ
  trees = gin.held.trees

  all_apart : IsApart (keys ++ trees ++ free)
  all_apart = subst (λ (l : List ℕ). IsApart (l ++ free)) gin.held.stand gin.apart

  pub trees_apart : IsApart (trees ++ free)
  trees_apart =
      once_apart (trees ++ free) (λ n. omega (
        arith,
        apart_once (keys ++ trees ++ free) all_apart n,
        times-append n (keys ++ trees) free,
        times-append n keys trees,
        times-append n trees free,
      ))

  keys_apart : IsApart (trees ++ free ++ keys)
  keys_apart =
      once_apart (trees ++ free ++ keys) (λ n. omega (
        arith,
        apart_once (keys ++ trees ++ free) all_apart n,
        times-append n (keys ++ trees) free,
        times-append n keys trees,
        times-append n (trees ++ free) keys,
        times-append n trees free,
      ))

  keys_below : AllByRecursion (λ page. page < g.count old) keys
  keys_below = subst (λ (l : List ℕ). AllByRecursion (λ (page : ℕ). page < g.count old) l) (sym gin.held.held.stand) gin.held.held.held.below

  module _ (mid : P) (map : g.map mid ≡ g.map old) (count : g.count mid ≡ g.count old) where
    pub frees_at : IsFreeList (g.map mid) (g.count mid) free
    frees_at = free_list_at (g.map mid) (g.map old) (g.count mid) (g.count old) free map count gin.frees

    pub trees_at : (others : List Entry) → others ≡ gin.held.entries → AreHeld (g.map mid) (g.count mid) others lists trees
    trees_at others same = held_at (g.map old) (g.map mid) (g.count old) (g.count mid) gin.held.entries others lists trees map count same gin.held.are

    map_at : HoldsMap (g.map mid) (g.count mid) root gin.held.entries keys
    map_at =
        subst (λ (p : PageMap). HoldsMap p (g.count mid) root gin.held.entries keys) (sym map)
        (subst (λ (k : ℕ). HoldsMap (g.map old) k root gin.held.entries keys) (sym count) gin.held.held)

    module _ (now : P) (rest : List ℕ) (gone : KeepsPages g mid now trees free [] rest) where
      low : AllByRecursion (λ page. page < g.count mid) (trees ++ free ++ keys)
      low = subst (λ (k : ℕ). AllByRecursion (λ (page : ℕ). page < k) (trees ++ free ++ keys)) (sym count)
          (all_join (λ (page : ℕ). page < g.count old) (trees ++ free) keys
          (all_join (λ (page : ℕ). page < g.count old) trees free (held_below (g.map old) (g.count old) gin.held.entries lists trees gin.held.are) gin.frees.below) keys_below)

      pub entries_left : HoldsEntries g now root gin.held.entries keys rest
      entries_left = record {
        held = map_stays g mid now trees free [] rest gone root gin.held.entries keys map_at keys_apart;
        frees = gone.frees;
        apart =
            (let beside = kept_beside g mid now trees free [] rest keys gone keys_apart low in
            once_apart (keys ++ rest) (λ n. omega (arith, apart_once ([] ++ rest ++ keys) beside n, times-append n rest keys, times-append n keys rest)));
      }

      wide : KeepsPages g old now feet free keys rest
      wide =
          let within = keeps_within g mid now keys trees [] free [] rest gone in
          let left : KeepsPages g mid now (keys ++ trees) free (keys ++ [] ++ []) rest = subst (λ (l : List ℕ). KeepsPages g mid now l free (keys ++ [] ++ []) rest) (append-nil (keys ++ trees)) within in
          let right : KeepsPages g mid now (keys ++ trees) free keys rest = subst (λ (l : List ℕ). KeepsPages g mid now (keys ++ trees) free l rest) (append-nil (keys ++ []) ∙ append-nil keys) left in
          subst (λ (l : List ℕ). KeepsPages g old now l free keys rest) (sym gin.held.stand) (keeps_from g old mid now (keys ++ trees) free keys rest map count right)

      pub all_gone : (new : P) (last : List ℕ) → KeepsPages g now new keys rest [] last → KeepsPages g old new feet free [] last
      all_gone new last keeps = keeps_join g old now new feet free keys rest [] last wide keeps
