-- Items that are written to a page, or to two.
use Rattle.std.proofs.Common.{◌≡◌, ◌≢◌, ⊎_elim, ℕ, zero, suc, ◌+◌, ◌-◌, ◌*◌, ◌^◌, ◌<◌, ◌≤◌, List, [], ◌∷◌, ◌++◌, length, map, take, drop, Option, Some, None, refl, sym, ◌∙◌, ap, subst, append_assoc, append-nil, length-append, length-drop, arith}
use Rattle.std.specs.List.{AllByRecursion}
use Rattle.std.proofs.lemmas.List.{length-take-le, take-append-drop, take_all}
use Rattle.gx_words.specs.PageMap.{PageMap, with_page}
use Rattle.gx_pages.specs.declared.store.Pages.{Ghosts}
use Rattle.gx_pages.specs.Frees.{IsApart, IsFreeList, KeepsHeader, Taken}
use Rattle.gx_pages.specs.Footprints.{ChangesOnly, IsOutside, KeepsPages, grown}
use Rattle.gx_pages.proofs.Footprints as feet
use Rattle.gx_slot.specs.Slots.{Fits, Slots, spelling}
use Rattle.gx_tree.specs.Paging.{AreOn, CanSplit, IsMiddle, Parted, weight}
use Rattle.gx_tree.specs.Trees.{slots}
use Rattle.gx_tree.proofs.Weights.{left_fits, left_many, right_fits, right_many}

abbrev pub spelled : ℕ → ℕ → List (List ℕ) → Slots
spelled kind level items = slots kind level (map (λ item. Some item) items)

module _ {P : Type 0} (g : Ghosts P) (old new : P) (kind level least page : ℕ) (items : List (List ℕ)) (some : page ≢ 0) where
  -- the whole list on the page
  module _ (count : g.count new ≡ g.count old) (bytes : List ℕ) (put : g.map new ≡ with_page (g.map old) page bytes) (made : Slots) (made_is : made ≡ spelled kind level (drop 0 (take (length items) items)))
      (bytes_are : bytes ≡ spelling made) (fits : Fits made) where
    all_items : made ≡ spelled kind level items
    all_items = made_is ∙ ap (λ (l : List (List ℕ)). spelled kind level l) (take_all (length items) items (omega arith))

    whole_on : AreOn (g.map new) kind level page items
    whole_on = record {
      some = some;
      is = ap (λ (m : PageMap). m page) put ∙ feet.with_same (g.map old) page bytes ∙ ap (λ (l : List ℕ). Some l) (bytes_are ∙ ap (λ (s : Slots). spelling s) all_items);
      fits = subst (λ (s : Slots). Fits s) all_items fits;
    }

    pub whole_parted : (free : List ℕ) → IsFreeList (g.map old) (g.count old) free → IsOutside page free → Parted g old new kind level least page items None free free
    whole_parted free frees outside =
        let later : IsFreeList (g.map new) (g.count new) free = feet.free_list_at (g.map new) (with_page (g.map old) page bytes) (g.count new) (g.count old) free put count (feet.free_list_put (g.map old) (g.count old) page bytes free some outside frees) in
        record {
          left = items;
          right = [];
          cut = sym (append-nil items);
          here = whole_on;
          there = refl;
          below = tt;
          keeps = feet.keeps_of g old new (page ∷ []) free (page ∷ []) free (omega (arith, count))
              (λ n nonzero away. ap (λ (m : PageMap). m n) put ∙ feet.with_other (g.map old) page bytes n away.0)
              (feet.header_same (g.map old) (g.map old) (g.map new) (feet.header_none (g.map old)) (ap (λ (m : PageMap). m 0) put ∙ feet.with_other (g.map old) page bytes 0 (λ is. some (sym is))))
              later
              (feet.same_pages ((page ∷ []) ++ free ++ grown (g.count old) (g.count new)) ((page ∷ []) ++ free)
              (ap (λ (l : List ℕ). (page ∷ []) ++ free ++ l) (feet.same_count (g.count old) (g.count new) (sym count)) ∙ append-nil ((page ∷ []) ++ free)));
        }

  -- a page and a new one
  module _ (middle : PageMap) (second place : ℕ) (left_bytes right_bytes : List ℕ) (left_made right_made : Slots)
      (left_is : left_made ≡ spelled kind level (drop 0 (take place items))) (right_is : right_made ≡ spelled kind level (drop place (take (length items) items)))
      (left_are : left_bytes ≡ spelling left_made) (right_are : right_bytes ≡ spelling right_made) (left_fit : Fits left_made) (right_fit : Fits right_made)
      (within : place ≤ length items) (many : least ≤ place) (others : least ≤ length items - place)
      (header : KeepsHeader (g.map old) middle) (grows : g.count old ≤ g.count new) (low : second < g.count new)
      (put : g.map new ≡ with_page (with_page middle second right_bytes) page left_bytes) (free rest : List ℕ)
      (taken : Taken (g.map old) middle (g.count old) (g.count new) second free rest) (frees : IsFreeList (g.map old) (g.count old) free) (outside : IsOutside page free) (page_low : page < g.count old) where
    fresh : IsApart ((page ∷ []) ++ second ∷ rest)
    fresh = feet.taken_apart (g.map old) middle (g.count old) (g.count new) second free rest (page ∷ []) taken (outside, frees.apart) (page_low, frees.below)

    differ : page ≢ second
    differ = fresh.0.0

    right_items : right_made ≡ spelled kind level (drop place items)
    right_items = right_is ∙ ap (λ (l : List (List ℕ)). spelled kind level (drop place l)) (take_all (length items) items (omega arith))

    pub left_on : AreOn (g.map new) kind level page (take place items)
    left_on = record {
      some = some;
      is = ap (λ (m : PageMap). m page) put ∙ feet.with_same (with_page middle second right_bytes) page left_bytes ∙ ap (λ (l : List ℕ). Some l) (left_are ∙ ap (λ (s : Slots). spelling s) left_is);
      fits = subst (λ (s : Slots). Fits s) left_is left_fit;
    }

    pub right_on : AreOn (g.map new) kind level second (drop place items)
    right_on = record {
      some = taken.nonzero;
      is = ap (λ (m : PageMap). m second) put ∙ feet.with_other (with_page middle second right_bytes) page left_bytes second (λ is. differ (sym is)) ∙ feet.with_same middle second right_bytes
          ∙ ap (λ (l : List ℕ). Some l) (right_are ∙ ap (λ (s : Slots). spelling s) right_items);
      fits = subst (λ (s : Slots). Fits s) right_items right_fit;
    }

    pub later : IsFreeList (g.map new) (g.count new) rest
    later = subst (λ (m : PageMap). IsFreeList m (g.count new) rest) (sym put)
        (feet.free_list_put (with_page middle second right_bytes) (g.count new) page left_bytes rest some fresh.0.1
        (feet.free_list_put middle (g.count new) second right_bytes rest taken.nonzero fresh.1.0 taken.frees))

    unfoldable pub split_parted : Parted g old new kind level least page items (Some second) free rest
    split_parted = record {
      left = take place items;
      right = drop place items;
      cut = sym (take-append-drop place items);
      here = left_on;
      there = (right_on, omega (arith, many, length-take-le place items within), omega (arith, others, length-drop place items));
      below = (low, tt);
      keeps = feet.keeps_of g old new (page ∷ []) free (page ∷ second ∷ []) rest grows
          (λ n nonzero away. ap (λ (m : PageMap). m n) put ∙ feet.with_other (with_page middle second right_bytes) page left_bytes n away.0 ∙ feet.with_other middle second right_bytes n away.1.1.0 ∙ taken.others n nonzero away.1.1.0)
          (feet.header_same (g.map old) middle (g.map new) header
          (ap (λ (m : PageMap). m 0) put ∙ feet.with_other (with_page middle second right_bytes) page left_bytes 0 (λ is. some (sym is)) ∙ feet.with_other middle second right_bytes 0 (λ is. taken.nonzero (sym is))))
          later
          (feet.same_pages ((page ∷ []) ++ free ++ grown (g.count old) (g.count new)) ((page ∷ second ∷ []) ++ rest)
          (feet.taken_pages (g.map old) middle (g.count old) (g.count new) second free rest (page ∷ []) taken));
    }

weight_none : (items : List (List ℕ)) → 8176 < weight items → 0 < length items
weight_none [] full = absurd (omega (arith, full))
weight_none (x ∷ items) full = omega arith

-- Items that can be split are split in the middle.
module _ (items : List (List ℕ)) (place least : ℕ) (finds : weight items < 2 ^ 32 → 0 < length items → IsMiddle items place) (full : 8176 < weight items) (can : CanSplit least items) where
  middle : IsMiddle items place
  middle = finds (let room = can.room in let narrow = can.narrow in omega (arith, room, narrow)) (weight_none items full)

  pub few_refused : place < least → ⊥
  few_refused low = let enough = left_many items place least middle can full in omega (arith, low, enough)

  pub past_refused : length items < place → ⊥
  past_refused low = let within = middle.within in omega (arith, low, within)

  pub others_refused : length items - place < least → ⊥
  others_refused low = let enough = right_many items place least middle can full in let within = middle.within in omega (arith, low, enough, within)

  pub left_refused : (place ≤ length items → 8176 < weight (drop 0 (take place items))) → ⊥
  left_refused long = let fits = left_fits items place least middle can full in let more = long middle.within in omega (arith, fits, more)

  pub right_refused : (length items ≤ length items → 8176 < weight (drop place (take (length items) items))) → ⊥
  right_refused long =
      let fits = right_fits items place least middle can full in
      let more = long (omega arith) in
      let all = ap (λ (l : List (List ℕ)). weight (drop place l)) (take_all (length items) items (omega arith)) in
      omega (arith, fits, more, all)
