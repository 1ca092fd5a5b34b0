-- A walk that gives the pages of a tree back.
use Rattle.std.proofs.Common.{◌≡◌, ◌≢◌, ℕ, suc, ◌+◌, List, [], ◌∷◌, ◌++◌, take, sym, ◌∙◌, ap, subst, append_assoc, append-nil, arith}
use Rattle.std.specs.List.{AllByRecursion, flat_map}
use Rattle.std.specs.List.Sorted.{IsPermutation}
use Rattle.std.proofs.lemmas.List.Sorted.{IsPermutation-trans, IsPermutation-cons, IsPermutation-append_left, IsPermutation-append_right, IsPermutation-append_comm}
use Rattle.gx_words.specs.PageMap.{PageMap}
use Rattle.gx_pages.specs.declared.store.Pages.{Ghosts as PageGhosts}
use Rattle.gx_pages.specs.Frees.{IsApart, IsFreeList, KeepsHeader, Given}
use Rattle.gx_pages.specs.Footprints.{IsOutside, ChangesOnly, KeepsPages}
use Rattle.gx_pages.proofs.Footprints as feet
use Rattle.gx_gist_tree.specs.Trees.{Node, pages_of}
use Rattle.gx_gist_tree.proofs.Places.{At, flat_more, flat_split}
use Rattle.gx_gist_tree.proofs.VisitFacts.{below_pages}

-- pages of two lists that were given, the second behind the first
pub given_both : (done here free rest more : List ℕ) → IsPermutation (done ++ free) rest → IsPermutation (here ++ rest) more → IsPermutation ((done ++ here) ++ free) more
given_both done here free rest more first second =
    let a : IsPermutation ((done ++ here) ++ free) ((here ++ done) ++ free) = IsPermutation-append_left free (done ++ here) (here ++ done) (IsPermutation-append_comm done here) in
    let b : IsPermutation ((here ++ done) ++ free) (here ++ rest) = subst (λ (l : List ℕ). IsPermutation l (here ++ rest)) (sym (append_assoc here done free)) (IsPermutation-append_right here (done ++ free) rest first) in
    IsPermutation-trans ((done ++ here) ++ free) ((here ++ done) ++ free) more a (IsPermutation-trans ((here ++ done) ++ free) (here ++ rest) more b second)

-- pages that lie apart from those that are left
pub apart_left_over : (all done here free rest : List ℕ) (others : List ℕ) → all ≡ done ++ (here ++ others) → IsApart (all ++ free) → IsPermutation (done ++ free) rest → IsApart (here ++ rest)
apart_left_over all done here free rest others cut apart moved = feet.once_apart (here ++ rest) (λ n. omega (
  arith,
  feet.times-append n here rest,
  feet.times-permutation n (done ++ free) rest moved,
  feet.times-append n done free,
  feet.times-append n all free,
  ap (λ (l : List ℕ). feet.times n l) cut,
  feet.times-append n done (here ++ others),
  feet.times-append n here others,
  feet.apart_once (all ++ free) apart n,
))

pub apart_first : (xs free : List ℕ) → IsApart (xs ++ free) → IsApart xs
apart_first xs free apart = feet.apart_left xs free apart

module _ {K : Type 0} (below : ℕ) (node : Node K (suc below)) (k : ℕ) (a : At node.1 k) where
  pub cut_here : pages_of K (suc below) node ≡ (node.0 ∷ flat_map (below_pages K below) (take k node.1)) ++ (pages_of K below a.item.1 ++ flat_map (below_pages K below) a.back)
  cut_here = ap (λ (l : List ℕ). node.0 ∷ l) (flat_split (below_pages K below) node.1 k a)

  pub apart_item : (free rest : List ℕ) → IsApart (pages_of K (suc below) node ++ free) → IsPermutation (flat_map (below_pages K below) (take k node.1) ++ free) rest → IsApart (pages_of K below a.item.1 ++ rest)
  apart_item free rest apart moved =
      apart_left_over (flat_map (below_pages K below) node.1) (flat_map (below_pages K below) (take k node.1)) (pages_of K below a.item.1) free rest (flat_map (below_pages K below) a.back)
      (flat_split (below_pages K below) node.1 k a) apart.1 moved

  pub moved_more : (free rest more : List ℕ) → IsPermutation (flat_map (below_pages K below) (take k node.1) ++ free) rest → IsPermutation (pages_of K below a.item.1 ++ rest) more
      → IsPermutation (flat_map (below_pages K below) (take (k + 1) node.1) ++ free) more
  moved_more free rest more first second =
      subst (λ (l : List ℕ). IsPermutation (l ++ free) more) (sym (flat_more (below_pages K below) node.1 k a))
      (given_both (flat_map (below_pages K below) (take k node.1)) (pages_of K below a.item.1) free rest more first second)

-- a page is given, and all below it were
module _ (old mid new : PageMap) (count later page : ℕ) (below free rest : List ℕ) (moved : IsPermutation (below ++ free) rest) (only : ChangesOnly old mid below) (apart : IsApart ((page ∷ below) ++ free))
    (others : (n : ℕ) → n ≢ 0 → n ≢ page → new n ≡ mid n) (same : later ≡ count)
    (given : (list : List ℕ) → IsFreeList mid count list → AllByRecursion (λ other. page ≢ other) list → Given mid new count page list) (list : IsFreeList mid count rest) where
  outside : IsOutside page rest
  outside = feet.none_outside page rest (omega (
    arith,
    feet.times-permutation page (below ++ free) rest moved,
    feet.times_one page (below ++ free),
    feet.apart_once ((page ∷ below) ++ free) apart page,
  ))

  pub gave : (left : List ℕ) × IsFreeList new later left × IsPermutation ((page ∷ below) ++ free) left × ChangesOnly old new (page ∷ below)
  gave = (
    page ∷ rest,
    subst (λ (n : ℕ). IsFreeList new n (page ∷ rest)) (sym same) (given rest list outside).frees,
    IsPermutation-cons page (below ++ free) rest moved,
    λ n some out. others n some out.0 ∙ only n some out.1,
  )

-- all pages were given
pub all_dropped : {P : Type 0} (p : PageGhosts P) (old new : P) (feet_of free rest : List ℕ) → p.count new ≡ p.count old → ChangesOnly (p.map old) (p.map new) feet_of → KeepsHeader (p.map old) (p.map new)
    → IsFreeList (p.map new) (p.count new) rest → IsPermutation (feet_of ++ free) rest → KeepsPages p old new feet_of free [] rest
all_dropped p old new feet_of free rest count only header list moved =
    feet.keeps_of p old new feet_of free [] rest (omega (arith, count)) (subst (λ (l : List ℕ). ChangesOnly (p.map old) (p.map new) l) (sym (append-nil feet_of)) only) header list
    (subst (λ (l : List ℕ). IsPermutation l rest) (sym (ap (λ (l : List ℕ). feet_of ++ free ++ l) (feet.same_count (p.count old) (p.count new) (sym count)) ∙ append-nil (feet_of ++ free))) moved)
