-- What a structure that stands on pages keeps. Its footprint is the list of the pages that it stands on, each once.
use Rattle.std.specs.Prelude.{◌≡◌, ◌≢◌, ℕ, ◌-◌, ◌<◌, ◌≤◌, List, ◌++◌}
use Rattle.std.specs.List.{AllByRecursion, range_with_len}
use Rattle.std.specs.List.Sorted.{IsPermutation}
use Rattle.gx_words.specs.PageMap.{PageMap}
use Rattle.gx_pages.specs.declared.store.Pages.{Ghosts}
use Rattle.gx_pages.specs.Frees.{IsFreeList, KeepsHeader}
use Rattle.gx_pages.specs.Pages.{Quiet}

-- the page is none of these
abbrev pub IsOutside : ℕ → List ℕ → Type 0
IsOutside page pages = AllByRecursion (λ other. page ≢ other) pages

-- Besides page 0 only these pages changed.
abbrev pub ChangesOnly : PageMap → PageMap → List ℕ → Type 0
ChangesOnly old new pages = (page : ℕ) → page ≢ 0 → IsOutside page pages → new page ≡ old page

-- the pages that the count grew by
abbrev pub grown : ℕ → ℕ → List ℕ
grown count later = range_with_len count (later - count)

-- A structure had one footprint beside these free pages, and now has another one beside the pages `rest`. Of the pages
-- below the old count only page 0, those of the structure and the free ones changed, page 0 in its count and its first
-- free page alone. No page is lost: the pages of the structure and the free ones are those of before and those that the
-- count grew by, in another order. In this form one change behind another is one change.
pub record KeepsPages {P : Type 0} (g : Ghosts P) (old new : P) (before free after rest : List ℕ) : Type 0 where
  pub grows : g.count old ≤ g.count new
  pub others : (page : ℕ) → page ≢ 0 → page < g.count old → IsOutside page (before ++ free) → g.map new page ≡ g.map old page
  pub header : KeepsHeader (g.map old) (g.map new)
  pub frees : IsFreeList (g.map new) (g.count new) rest
  pub kept : IsPermutation (before ++ free ++ grown (g.count old) (g.count new)) (after ++ rest)

-- Nothing was said or committed, whether a unit is begun and the store is spoiled are as before, what lies below followed,
-- and a crash leaves no committed map that it couldn't leave before.
abbrev pub StaysQuiet : {P : Type 0} → Ghosts P → P → P → Type 0
StaysQuiet g old new = Quiet g.said g.committed g.spoiled g.begun g.committed_count g.faults g.moment g.may_leave g.may_have_left_since g.follows old new
