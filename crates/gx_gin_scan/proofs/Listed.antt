-- The rows of all entries.
use Rattle.std.proofs.Common.{◌≡◌, ℕ, zero, suc, ◌+◌, ◌<◌, ◌≤◌, List, [], ◌∷◌, ◌++◌, length, take, get_or, refl, sym, ◌∙◌, ap, subst, append_assoc, append-nil, arith}
use Rattle.gx_words.specs.PageMap.{PageMap}
use Rattle.gx_pages.specs.declared.row.RowRef.{RowRef}
use Rattle.gx_gin_entry.specs.EntryTrees.{Entry}
use Rattle.gx_gin_entry.specs.Listed.{entries_of}
use Rattle.gx_gin_entry.specs.declared.listing.EntryBytes.{EntryBytes}
use Rattle.gx_gin_scan.specs.Gins.{AreHeld, IsPosting}
use Rattle.gx_gin_scan.specs.Lists.{Lists}
use Rattle.gx_gin_scan.specs.Searches.{all_rows}

-- the entry at a place, with its list
pub record Posted (now : PageMap) (count : ℕ) (posting : List ℕ) (lists : Lists) (i : ℕ) : Type 0 where
  pub list : List ℕ × List RowRef
  pub own : List ℕ
  pub stands : IsPosting now count posting list.1 own
  pub more : all_rows (take (i + 1) lists) ≡ all_rows (take i lists) ++ list.1

pub posted : (now : PageMap) (count : ℕ) (entries : List EntryBytes) (lists : Lists) (feet : List ℕ) (i : ℕ) (d : EntryBytes) → AreHeld now count (entries_of entries) lists feet → i < length entries
    → Posted now count (get_or entries i d).posting lists i
posted now count [] lists feet i d are below = absurd (omega (arith, below))
posted now count (entry ∷ entries) [] feet i d are below = absurd are
posted now count (entry ∷ entries) (list ∷ lists) feet zero d are below = record { list = list; own = are.0; stands = are.5; more = append-nil list.1 }
posted now count (entry ∷ entries) (list ∷ lists) feet (suc i) d are below =
    let rest = posted now count entries lists are.1 i d are.6 (omega (arith, below)) in
    let e : suc i + 1 ≡ suc (i + 1) = omega arith in
    record {
      list = rest.list;
      own = rest.own;
      stands = rest.stands;
      more = ap (λ (n : ℕ). all_rows (take n (list ∷ lists))) e ∙ ap (λ (l : List RowRef). list.1 ++ l) rest.more ∙ sym (append_assoc list.1 (all_rows (take i lists)) rest.list.1);
    }

pub posted_all : (now : PageMap) (count : ℕ) (entries : List EntryBytes) (lists : Lists) (feet : List ℕ) (i : ℕ) → AreHeld now count (entries_of entries) lists feet → length entries ≤ i → take i lists ≡ lists
posted_all now count [] [] feet zero are past = refl
posted_all now count [] [] feet (suc i) are past = refl
posted_all now count [] (list ∷ lists) feet i are past = absurd are
posted_all now count (entry ∷ entries) [] feet i are past = absurd are
posted_all now count (entry ∷ entries) (list ∷ lists) feet zero are past = absurd (omega (arith, past))
posted_all now count (entry ∷ entries) (list ∷ lists) feet (suc i) are past = ap (λ (l : Lists). list ∷ l) (posted_all now count entries lists are.1 i are.6 (omega (arith, past)))

-- the same at an equal map, count and list of entries
pub held_at : (old new : PageMap) (m n : ℕ) (entries others : List Entry) (lists : Lists) (feet : List ℕ) → new ≡ old → n ≡ m → others ≡ entries → AreHeld old m entries lists feet → AreHeld new n others lists feet
held_at old new m n entries others lists feet map count same are =
    subst (λ (p : PageMap). AreHeld p n others lists feet) (sym map)
    (subst (λ (k : ℕ). AreHeld old k others lists feet) (sym count) (subst (λ (l : List Entry). AreHeld old m l lists feet) (sym same) are))
