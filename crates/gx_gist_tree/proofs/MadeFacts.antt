-- An empty tree on a page that was taken.
use Rattle.std.proofs.Common.{◌≡◌, ℕ, ◌<◌, ◌≤◌, List, [], ◌∷◌, ◌++◌, Some, refl, sym, ◌∙◌, ap, subst}
use Rattle.std.proofs.lemmas.List.Elements.{All-nil}
use Rattle.gx_words.specs.PageMap.{PageMap, with_page}
use Rattle.gx_pages.specs.declared.store.Pages.{Ghosts as PageGhosts}
use Rattle.gx_pages.specs.Frees.{IsApart, IsFreeList, KeepsHeader, Taken}
use Rattle.gx_pages.specs.Footprints.{ChangesOnly, KeepsPages, grown}
use Rattle.gx_pages.proofs.Footprints as feet
use Rattle.gx_gist.specs.declared.class.GistClass.{Ghosts}
use Rattle.gx_slot.specs.Slots.{Fits, spelling}
use Rattle.gx_gist_tree.specs.Trees.{Entry, IsLeafKey}
use Rattle.gx_gist_tree.specs.OnPages.{Whole, Holds, HoldsBeside, FitsFields}

module _ {P C V Q K : Type 0} (p : PageGhosts P) (g : Ghosts C V Q K) (class : C) (old new : P) (page : ℕ) (middle : PageMap) (bytes : List ℕ)
    (spelled : bytes ≡ spelling (record { kind = 4; level = 0; next = 0; items = [] })) (fits : Fits (record { kind = 4; level = 0; next = 0; items = [] }))
    (below : page < p.count new) (grows : p.count old ≤ p.count new) (header : KeepsHeader (p.map old) middle) (put : p.map new ≡ with_page middle page bytes)
    (takes : (free : List ℕ) → IsFreeList (p.map old) (p.count old) free → (rest : List ℕ) × Taken (p.map old) middle (p.count old) (p.count new) page free rest) where
  abbrev empty : Whole K
  empty = (0, (page, []))

  module _ (free : List ℕ) (list : IsFreeList (p.map old) (p.count old) free) (rest : List ℕ) (taken : Taken (p.map old) middle (p.count old) (p.count new) page free rest) where
    apart : IsApart (page ∷ rest)
    apart = feet.taken_apart (p.map old) middle (p.count old) (p.count new) page free rest [] taken list.apart list.below

    frees : IsFreeList (p.map new) (p.count new) rest
    frees = subst (λ (m : PageMap). IsFreeList m (p.count new) rest) (sym put) (feet.free_list_put middle (p.count new) page bytes rest taken.nonzero apart.0 taken.frees)

    holds : Holds g class (p.map new) (p.count new) page empty
    holds = record {
      stands = record {
        some = taken.nonzero;
        is = ap (λ (m : PageMap). m page) put ∙ feet.with_same middle page bytes ∙ ap (λ (l : List ℕ). Some l) spelled;
        fits = fits;
      };
      begins = refl;
      apart = (tt, tt);
      below = (below, tt);
      keys = All-nil (λ (e : Entry K). IsLeafKey (g.valid_value class) (g.leaf_of class) e.1);
      two = tt;
      rows = All-nil (λ (e : Entry K). FitsFields e.0);
      once = tt;
    }

    only : ChangesOnly (p.map old) (p.map new) ([] ++ page ∷ [])
    only n some outside = ap (λ (m : PageMap). m n) put ∙ feet.with_other middle page bytes n outside.0 ∙ taken.others n some outside.0

  pub made : (free : List ℕ) → IsFreeList (p.map old) (p.count old) free → (rest : List ℕ) × HoldsBeside p g class new page empty rest × KeepsPages p old new [] free (page ∷ []) rest
  made free list =
      let has = takes free list in (
        has.0,
        record { held = holds free list has.0 has.1; frees = frees free list has.0 has.1; apart = apart free list has.0 has.1 },
        feet.keeps_of p old new [] free (page ∷ []) has.0 grows (only free list has.0 has.1)
            (feet.header_same (p.map old) middle (p.map new) header (ap (λ (m : PageMap). m 0) put ∙ feet.with_other middle page bytes 0 (λ same. has.1.nonzero (sym same))))
            (frees free list has.0 has.1)
            (feet.same_pages ([] ++ free ++ grown (p.count old) (p.count new)) ((page ∷ []) ++ has.0)
            (feet.taken_pages (p.map old) middle (p.count old) (p.count new) page free has.0 [] has.1)),
      )
