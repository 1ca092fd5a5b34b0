-- Slot pages that are given back.
use Rattle.std.specs.Prelude.{◌≡◌, ◌≢◌, ℕ, ◌<◌, List, ◌++◌, Some}
use Rattle.std.specs.List.{AllByRecursion}
use Rattle.gx_words.specs.PageMap.{PageMap}
use Rattle.gx_pages.specs.declared.store.Pages.{Ghosts}
use Rattle.gx_pages.specs.Frees.{IsApart, IsFreeList}
use Rattle.gx_slot.specs.Slots.{Slots, Fits, spelling}

-- The page is a slot page of this kind, below the count.
pub record IsKind (map : PageMap) (count kind page : ℕ) : Type 0 where
  pub slots : Slots
  pub some : page ≢ 0
  pub is : map page ≡ Some (spelling slots)
  pub fits : Fits slots
  pub kinds : slots.kind ≡ kind
  pub below : page < count

-- These are slot pages of this kind, each once, and beside them these free pages.
pub record Gives {P : Type 0} (g : Ghosts P) (pages : P) (kind : ℕ) (list free : List ℕ) : Type 0 where
  pub are : AllByRecursion (IsKind (g.map pages) (g.count pages) kind) list
  pub frees : IsFreeList (g.map pages) (g.count pages) free
  pub apart : IsApart (list ++ free)
