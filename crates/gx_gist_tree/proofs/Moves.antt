-- Pages that are kept: beside others, in another order, and behind an earlier change.
use Rattle.std.proofs.Common.{◌≡◌, ◌≢◌, ℕ, ◌-◌, ◌<◌, ◌≤◌, List, [], ◌∷◌, ◌++◌, All, arith}
use Rattle.std.specs.List.{AllByRecursion}
use Rattle.std.specs.List.Sorted.{IsPermutation}
use Rattle.std.proofs.lemmas.List.FromFn.{length-range_with_len, get_or-range_with_len}
use Rattle.std.proofs.lemmas.List.Elements.{All-append, All-from_recursion, recursion_from_All}
use Rattle.std.proofs.lemmas.List.Sorted.{All-permutation}
use Rattle.gx_words.specs.PageMap.{PageMap}
use Rattle.gx_pages.specs.declared.store.Pages.{Ghosts}
use Rattle.gx_pages.specs.Frees.{IsApart}
use Rattle.gx_pages.specs.Footprints.{IsOutside, KeepsPages, grown}
use Rattle.gx_pages.proofs.Footprints as feet
use Rattle.gx_gist_tree.proofs.Permuted.{permuted}

new_below : (count later : ℕ) → count ≤ later → All (λ n. n < later) (grown count later)
new_below count later grows = λ k d h.
    let small : k < later - count = omega (arith, h, length-range_with_len count (later - count)) in
    rw (get_or-range_with_len count (later - count) k d small) (omega (arith, small, grows))

same_each : (old new : PageMap) (count : ℕ) (changed pages : List ℕ) → ((page : ℕ) → page ≢ 0 → page < count → IsOutside page changed → new page ≡ old page)
    → AllByRecursion (λ page. page ≢ 0) pages → AllByRecursion (λ page. page < count) pages → AllByRecursion (λ page. IsOutside page changed) pages → AllByRecursion (λ page. new page ≡ old page) pages
same_each old new count changed [] others some below outside = tt
same_each old new count changed (page ∷ pages) others some below outside =
    (others page some.0 below.0 outside.0, same_each old new count changed pages others some.1 below.1 outside.1)

module _ {P : Type 0} (g : Ghosts P) where
  -- footprints in another order
  pub keeps_moved : (old new : P) (before free after rest earlier later : List ℕ) → KeepsPages g old new before free after rest → IsPermutation before earlier → IsPermutation after later
      → KeepsPages g old new earlier free later rest
  keeps_moved old new before free after rest earlier later keeps first second =
      let more = grown (g.count old) (g.count new) in
      record {
        grows = keeps.grows;
        others = λ page some below out. keeps.others page some below (feet.none_outside page (before ++ free) (omega (
          arith,
          feet.times-append page before free,
          feet.times-append page earlier free,
          feet.times-permutation page before earlier first,
          feet.outside_none page (earlier ++ free) out,
        )));
        header = keeps.header;
        frees = keeps.frees;
        kept = permuted (earlier ++ free ++ more) (later ++ rest) (λ n. omega (
          arith,
          feet.times-append n (earlier ++ free) more,
          feet.times-append n earlier free,
          feet.times-append n (before ++ free) more,
          feet.times-append n before free,
          feet.times-append n later rest,
          feet.times-append n after rest,
          feet.times-permutation n before earlier first,
          feet.times-permutation n after later second,
          feet.times-permutation n (before ++ free ++ more) (after ++ rest) keeps.kept,
        ));
      }

  -- others beside them
  pub keeps_beside : (old new : P) (before free after rest beside : List ℕ) → KeepsPages g old new before free after rest → KeepsPages g old new (before ++ beside) free (after ++ beside) rest
  keeps_beside old new before free after rest beside keeps =
      let more = grown (g.count old) (g.count new) in
      record {
        grows = keeps.grows;
        others = λ page some below out. keeps.others page some below (feet.none_outside page (before ++ free) (omega (
          arith,
          feet.times-append page before free,
          feet.times-append page (before ++ beside) free,
          feet.times-append page before beside,
          feet.outside_none page ((before ++ beside) ++ free) out,
        )));
        header = keeps.header;
        frees = keeps.frees;
        kept = permuted ((before ++ beside) ++ free ++ more) ((after ++ beside) ++ rest) (λ n. omega (
          arith,
          feet.times-append n ((before ++ beside) ++ free) more,
          feet.times-append n (before ++ beside) free,
          feet.times-append n before beside,
          feet.times-append n (before ++ free) more,
          feet.times-append n before free,
          feet.times-append n (after ++ beside) rest,
          feet.times-append n after beside,
          feet.times-append n after rest,
          feet.times-permutation n (before ++ free ++ more) (after ++ rest) keeps.kept,
        ));
      }

  -- all pages of now are below the count
  pub below_now : (old new : P) (before free after rest : List ℕ) → KeepsPages g old new before free after rest → AllByRecursion (λ n. n < g.count old) (before ++ free)
      → AllByRecursion (λ n. n < g.count new) (after ++ rest)
  below_now old new before free after rest keeps below =
      let grows = keeps.grows in
      let Q : ℕ → Type 0 = λ n. n < g.count new in
      let low : AllByRecursion Q (before ++ free) = feet.all_weaker (λ (n : ℕ). n < g.count old) Q (before ++ free) (λ n here. omega (arith, here, grows)) below in
      recursion_from_All Q (after ++ rest)
      (All-permutation Q (before ++ free ++ grown (g.count old) (g.count new)) (after ++ rest) keeps.kept
      (All-append Q (before ++ free) (grown (g.count old) (g.count new)) (All-from_recursion Q (before ++ free) low) (new_below (g.count old) (g.count new) grows)))

  -- Pages that lie apart from a structure and its free pages stay.
  pub beside_same : (old new : P) (before free after rest beside : List ℕ) → KeepsPages g old new before free after rest → IsApart ((before ++ beside) ++ free) → AllByRecursion (λ n. n ≢ 0) beside
      → AllByRecursion (λ n. n < g.count old) beside → AllByRecursion (λ n. g.map new n ≡ g.map old n) beside
  beside_same old new before free after rest beside keeps apart some below =
      same_each (g.map old) (g.map new) (g.count old) (before ++ free) beside keeps.others some below
      (feet.apart_each (before ++ free) beside (feet.once_apart ((before ++ free) ++ beside) (λ n. omega (
        arith,
        feet.times-append n (before ++ free) beside,
        feet.times-append n before free,
        feet.times-append n (before ++ beside) free,
        feet.times-append n before beside,
        feet.apart_once ((before ++ beside) ++ free) apart n,
      ))))

  -- a page is put behind a change below it
  module _ (old mid new : P) (page : ℕ) (before after now free left rest : List ℕ) (first : KeepsPages g old mid (page ∷ before) free (page ∷ after) left) (second : KeepsPages g mid new (page ∷ []) left now rest) where
    pub put_behind : KeepsPages g old new (page ∷ before) free (now ++ after) rest
    put_behind = feet.keeps_join g old mid new (page ∷ before) free (page ∷ after) left (now ++ after) rest first (keeps_beside mid new (page ∷ []) left now rest after second)

    -- the pages below it stay
    pub stay_behind : IsApart ((page ∷ before) ++ free) → AllByRecursion (λ n. n < g.count old) ((page ∷ before) ++ free) → AllByRecursion (λ n. n ≢ 0) after → AllByRecursion (λ n. g.map new n ≡ g.map mid n) after
    stay_behind apart below some =
        let apart_mid = feet.kept_apart g old mid (page ∷ before) free (page ∷ after) left first apart below in
        let low_mid = below_now old mid (page ∷ before) free (page ∷ after) left first below in
        beside_same mid new (page ∷ []) left now rest after second apart_mid some (feet.all_left (λ (n : ℕ). n < g.count mid) after left low_mid.1)
