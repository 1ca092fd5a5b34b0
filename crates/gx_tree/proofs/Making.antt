-- A new tree of one page.
use Rattle.std.proofs.Common.{◌≡◌, ◌≢◌, ℕ, ◌+◌, ◌<◌, ◌≤◌, List, [], ◌∷◌, ◌++◌, map, Some, refl, sym, ◌∙◌, ap, subst, arith}
use Rattle.gx_words.specs.PageMap.{PageMap, with_page}
use Rattle.gx_pages.specs.declared.store.Pages.{Ghosts}
use Rattle.gx_pages.specs.Frees.{IsApart, IsFreeList, KeepsHeader, Taken}
use Rattle.gx_pages.specs.Footprints.{ChangesOnly, KeepsPages, grown}
use Rattle.gx_pages.proofs.Footprints as feet
use Rattle.gx_slot.specs.Slots.{Fits, spelling}
use Rattle.gx_tree.specs.Trees.{Holds, HoldsBeside, IsOn, slots}

module _ {P : Type 0} (g : Ghosts P) (old new : P) (kind page : ℕ) (items : List (List ℕ)) (middle : PageMap) (bytes : List ℕ)
    (spelled : bytes ≡ spelling (slots kind 0 (map (λ item. Some item) items))) (fits : Fits (slots kind 0 (map (λ item. Some item) items))) (below : page < g.count new) (grows : g.count old ≤ g.count new) (header : KeepsHeader (g.map old) middle)
    (put : g.map new ≡ with_page middle page bytes)
    (takes : (free : List ℕ) → IsFreeList (g.map old) (g.count old) free → (rest : List ℕ) × Taken (g.map old) middle (g.count old) (g.count new) page free rest) where
  module _ (free : List ℕ) (list : IsFreeList (g.map old) (g.count old) free) (rest : List ℕ) (taken : Taken (g.map old) middle (g.count old) (g.count new) page free rest) where
    apart : IsApart (page ∷ rest)
    apart = feet.taken_apart (g.map old) middle (g.count old) (g.count new) page free rest [] taken list.apart list.below

    on : IsOn (g.map new) kind 0 (page, items)
    on = record {
      some = taken.nonzero;
      is = ap (λ (m : PageMap). m page) put ∙ feet.with_same middle page bytes ∙ ap (λ (l : List ℕ). Some l) spelled;
      fits = fits;
    }

    frees : IsFreeList (g.map new) (g.count new) rest
    frees = subst (λ (m : PageMap). IsFreeList m (g.count new) rest) (sym put) (feet.free_list_put middle (g.count new) page bytes rest taken.nonzero apart.0 taken.frees)

    holds : Holds (g.map new) (g.count new) kind page (0, (page, items))
    holds = record { stand = (on, tt); begins = refl; apart = (tt, tt); below = (below, tt); two = tt }

    only : ChangesOnly (g.map old) (g.map new) ([] ++ page ∷ [])
    only n some outside = ap (λ (m : PageMap). m n) put ∙ feet.with_other middle page bytes n outside.0 ∙ taken.others n some outside.0

  pub made : (free : List ℕ) → IsFreeList (g.map old) (g.count old) free → (rest : List ℕ) × HoldsBeside g new kind page (0, (page, items)) rest × KeepsPages g old new [] free (page ∷ []) rest
  made free list =
      let has = takes free list in (
        has.0,
        record { held = holds free list has.0 has.1; frees = frees free list has.0 has.1; apart = apart free list has.0 has.1 },
        feet.keeps_of g old new [] free (page ∷ []) has.0 grows (only free list has.0 has.1)
            (feet.header_same (g.map old) middle (g.map new) header (ap (λ (m : PageMap). m 0) put ∙ feet.with_other middle page bytes 0 (λ same. has.1.nonzero (sym same))))
            (frees free list has.0 has.1)
            (feet.same_pages ([] ++ free ++ grown (g.count old) (g.count new)) ((page ∷ []) ++ has.0)
            (feet.taken_pages (g.map old) middle (g.count old) (g.count new) page free has.0 [] has.1)),
      )
