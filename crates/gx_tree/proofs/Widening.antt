-- Changes of some pages of a structure, as changes of the structure.
use Rattle.std.proofs.Common.{◌≡◌, ◌≢◌, ⊎_elim, ℕ, zero, suc, ◌+◌, ◌-◌, ◌<◌, ◌≤◌, List, [], ◌∷◌, ◌++◌, length, map, refl, sym, ◌∙◌, ap, subst, arith}
use Rattle.std.specs.List.{AllByRecursion, range_with_len}
use Rattle.std.proofs.lemmas.Bool.{cases_lt}
use Rattle.std.proofs.lemmas.Bool.Decides.{eqb_tells}
use Rattle.gx_words.specs.PageMap.{PageMap}
use Rattle.gx_pages.specs.declared.store.Pages.{Ghosts}
use Rattle.gx_pages.specs.Frees.{IsApart}
use Rattle.gx_pages.specs.Footprints.{IsOutside, KeepsPages, grown}
use Rattle.gx_pages.proofs.Footprints as feet
use Rattle.gx_tree.specs.Trees.{Node, Stand, pages_of}
use Rattle.gx_tree.proofs.Lists.{permuted}
use Rattle.gx_tree.proofs.Dropped.{pages_kind}
use Rattle.gx_tree.proofs.Staying.{stand_stays, each_same}

pub times_all : (Q : ℕ → Type 0) (xs : List ℕ) → AllByRecursion Q xs → (n : ℕ) → 0 < feet.times n xs → Q n
times_all Q [] all n some = absurd (omega (arith, some))
times_all Q (x ∷ xs) all n some =
    ⊎_elim
    (λ same. subst (λ (m : ℕ). Q m) (sym same.1) all.0)
    (λ other. times_all Q xs all.1 n (let none = feet.hit_none n x other.1 in omega (arith, some, none)))
    (eqb_tells n x)

pub all_times : (Q : ℕ → Type 0) (xs : List ℕ) → ((n : ℕ) → 0 < feet.times n xs → Q n) → AllByRecursion Q xs
all_times Q [] each = tt
all_times Q (x ∷ xs) each = (
  each x (omega (arith, feet.times_one x xs)),
  all_times Q xs (λ n some. each n (omega (arith, some))),
)

range_below : (count len n : ℕ) → 0 < feet.times n (range_with_len count len) → n < count + len
range_below count zero n some = absurd (omega (arith, some))
range_below count (suc len) n some =
    ⊎_elim
    (λ same. let e = same.1 in omega (arith, e))
    (λ other. let rest = range_below (count + 1) len n (let none = feet.hit_none n count other.1 in omega (arith, some, none)) in omega (arith, rest))
    (eqb_tells n count)

module _ {P : Type 0} (g : Ghosts P) (old new : P) (before free after rest : List ℕ) (keeps : KeepsPages g old new before free after rest) where
  pub keeps_wider : (wide more later : List ℕ) → ((n : ℕ) → feet.times n more ≡ feet.times n before + feet.times n wide) → ((n : ℕ) → feet.times n later ≡ feet.times n after + feet.times n wide)
      → KeepsPages g old new more free later rest
  keeps_wider wide more later first last = record {
    grows = keeps.grows;
    others = λ page some below out.
        let none = feet.outside_none page (more ++ free) out in
        let e = first page in
        keeps.others page some below (feet.none_outside page (before ++ free) (omega (arith, none, e, feet.times-append page more free, feet.times-append page before free)));
    header = keeps.header;
    frees = keeps.frees;
    kept = permuted (more ++ free ++ grown (g.count old) (g.count new)) (later ++ rest) (λ n.
        let moved = feet.times-permutation n (before ++ free ++ grown (g.count old) (g.count new)) (after ++ rest) keeps.kept in
        let a = first n in
        let b = last n in
        omega (
          arith,
          moved,
          a,
          b,
          feet.times-append n (more ++ free) (grown (g.count old) (g.count new)),
          feet.times-append n more free,
          feet.times-append n (before ++ free) (grown (g.count old) (g.count new)),
          feet.times-append n before free,
          feet.times-append n later rest,
          feet.times-append n after rest,
        ));
  }

  pub kept_below : AllByRecursion (λ n. n < g.count old) (before ++ free) → AllByRecursion (λ n. n < g.count new) (after ++ rest)
  kept_below below = all_times (λ (n : ℕ). n < g.count new) (after ++ rest) (λ n some.
      let moved = feet.times-permutation n (before ++ free ++ grown (g.count old) (g.count new)) (after ++ rest) keeps.kept in
      let cut = feet.times-append n (before ++ free) (grown (g.count old) (g.count new)) in
      let grows = keeps.grows in
      ⊎_elim
      (λ there. let low = times_all (λ (m : ℕ). m < g.count old) (before ++ free) below n there in omega (arith, low, grows))
      (λ none. let high = range_below (g.count old) (g.count new - g.count old) n (omega (arith, none, some, moved, cut)) in omega (arith, high, grows))
      (cases_lt 0 (feet.times n (before ++ free))))

  -- pages of a tree that lie apart from what changed
  pub stand_kept : (kind level : ℕ) (nodes : List (Node level)) → Stand (g.map old) kind level nodes → AllByRecursion (λ n. n < g.count old) (pages_of level nodes) → IsApart (before ++ free ++ pages_of level nodes)
      → Stand (g.map new) kind level nodes
  stand_kept kind level nodes stand below apart =
      stand_stays (g.map old) (g.map new) kind level nodes
      (each_same g old new before free after rest keeps kind (pages_of level nodes) (pages_kind (g.map old) (g.count old) kind level nodes stand below) (feet.apart_each (before ++ free) (pages_of level nodes) apart)) stand
