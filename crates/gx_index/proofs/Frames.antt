-- A change of one structure beside another one.
use Rattle.std.proofs.Common.{◌≡◌, ◌≢◌, ⊎_elim, ℕ, ◌<◌, ◌≤◌, List, [], ◌∷◌, ◌++◌, sym, ◌∙◌, ap, subst, append_assoc, arith}
use Rattle.std.specs.Prelude.{IsPermutation}
use Rattle.std.specs.List.{AllByRecursion}
use Rattle.std.proofs.lemmas.Bool.{cases_lt}
use Rattle.std.proofs.lemmas.List.Sorted.{IsPermutation-trans, IsPermutation-append_left, IsPermutation-append_right, IsPermutation-append_comm}
use Rattle.gx_pages.specs.declared.store.Pages.{Ghosts}
use Rattle.gx_pages.specs.Footprints.{IsOutside, KeepsPages, grown}
use Rattle.gx_pages.specs.Frees.{IsApart}
use Rattle.gx_pages.proofs.Footprints.{times, times-append, times-permutation, times_one, apart_once, once_apart, apart_grown, above_outside, outside_none, all_left, all_right, all_join}

-- each page stands once still where none stands more often
pub apart_by : (xs ys : List ℕ) → ((n : ℕ) → times n ys ≤ times n xs) → IsApart xs → IsApart ys
apart_by xs ys fewer apart = once_apart ys (λ n. let a = apart_once xs apart n in let b = fewer n in omega (arith, a, b))

below_grown : (n count later : ℕ) → n < count → times n (grown count later) ≡ 0
below_grown n count later below =
    let a = apart_once (n ∷ [] ++ grown count later) (apart_grown (n ∷ []) count later (tt, tt) (below, tt)) n in
    let b = times-append n (n ∷ []) (grown count later) in
    let c = times_one n [] in
    omega (arith, a, b, c)

swapped : (x y z : List ℕ) → IsPermutation (x ++ y ++ z) (x ++ z ++ y)
swapped x y z =
    subst (λ (l : List ℕ). IsPermutation l (x ++ z ++ y)) (sym (append_assoc x y z))
    (subst (λ (l : List ℕ). IsPermutation (x ++ (y ++ z)) l) (sym (append_assoc x z y)) (IsPermutation-append_right x (y ++ z) (z ++ y) (IsPermutation-append_comm y z)))

module _ {P : Type 0} (p : Ghosts P) (old new : P) (before free after rest others : List ℕ) (keeps : KeepsPages p old new before free after rest) where
  more : List ℕ
  more = grown (p.count old) (p.count new)

  outside_part : (page : ℕ) → IsOutside page (before ++ others ++ free) → IsOutside page (before ++ free)
  outside_part page out =
      all_join (λ other. page ≢ other) before free (all_left (λ other. page ≢ other) before others (all_left (λ other. page ≢ other) (before ++ others) free out))
      (all_right (λ other. page ≢ other) (before ++ others) free out)

  outside_back : (page : ℕ) → IsOutside page (others ++ before ++ free) → IsOutside page (before ++ free)
  outside_back page out =
      all_join (λ other. page ≢ other) before free (all_right (λ other. page ≢ other) others before (all_left (λ other. page ≢ other) (others ++ before) free out))
      (all_right (λ other. page ≢ other) (others ++ before) free out)

  kept_more : (gains : List ℕ) → IsPermutation (before ++ free ++ gains) (after ++ rest) → IsPermutation (before ++ others ++ free ++ gains) (after ++ others ++ rest)
  kept_more gains kept =
      IsPermutation-trans (before ++ others ++ free ++ gains) (before ++ free ++ others ++ gains) (after ++ others ++ rest)
      (IsPermutation-append_left gains (before ++ others ++ free) (before ++ free ++ others) (swapped before others free))
      (IsPermutation-trans (before ++ free ++ others ++ gains) (before ++ free ++ gains ++ others) (after ++ others ++ rest) (swapped (before ++ free) others gains)
      (IsPermutation-trans (before ++ free ++ gains ++ others) (after ++ rest ++ others) (after ++ others ++ rest)
      (IsPermutation-append_left others (before ++ free ++ gains) (after ++ rest) kept) (swapped after rest others)))

  -- beside what stands behind it
  pub keeps_before : KeepsPages p old new (before ++ others) free (after ++ others) rest
  keeps_before = record {
    grows = keeps.grows;
    others = λ page some below out. keeps.others page some below (outside_part page out);
    header = keeps.header;
    frees = keeps.frees;
    kept = kept_more (grown (p.count old) (p.count new)) keeps.kept;
  }

  kept_back : (gains : List ℕ) → IsPermutation (before ++ free ++ gains) (after ++ rest) → IsPermutation (others ++ before ++ free ++ gains) (others ++ after ++ rest)
  kept_back gains kept =
      subst (λ (l : List ℕ). IsPermutation l (others ++ after ++ rest))
      (sym (append_assoc (others ++ before) free gains ∙ append_assoc others before (free ++ gains) ∙ ap (λ (l : List ℕ). others ++ l) (sym (append_assoc before free gains))))
      (subst (λ (l : List ℕ). IsPermutation (others ++ (before ++ free ++ gains)) l) (sym (append_assoc others after rest))
      (IsPermutation-append_right others (before ++ free ++ gains) (after ++ rest) kept))

  -- beside what stands before it
  pub keeps_behind : KeepsPages p old new (others ++ before) free (others ++ after) rest
  keeps_behind = record {
    grows = keeps.grows;
    others = λ page some below out. keeps.others page some below (outside_back page out);
    header = keeps.header;
    frees = keeps.frees;
    kept = kept_back (grown (p.count old) (p.count new)) keeps.kept;
  }

  -- its pages and the free ones still lie apart from the others
  pub still_apart : IsApart (before ++ free ++ others) → IsApart (after ++ rest) → AllByRecursion (λ page. page < p.count old) others → IsApart (after ++ rest ++ others)
  still_apart apart now below = once_apart (after ++ rest ++ others) (λ n. ⊎_elim (inside n) (beyond n) (cases_lt n (p.count old)))
    where
      inside : (n : ℕ) → n < p.count old → times n (after ++ rest ++ others) ≤ 1
      inside n less =
          let a = times-append n (after ++ rest) others in
          let b = times-permutation n (before ++ free ++ grown (p.count old) (p.count new)) (after ++ rest) keeps.kept in
          let c = times-append n (before ++ free) (grown (p.count old) (p.count new)) in
          let d = below_grown n (p.count old) (p.count new) less in
          let e = times-append n (before ++ free) others in
          let f = apart_once (before ++ free ++ others) apart n in
          omega (arith, a, b, c, d, e, f)

      beyond : (n : ℕ) → p.count old ≤ n → times n (after ++ rest ++ others) ≤ 1
      beyond n least =
          let a = times-append n (after ++ rest) others in
          let b = outside_none n others (above_outside n (p.count old) others least below) in
          let c = apart_once (after ++ rest) now n in
          omega (arith, a, b, c)
