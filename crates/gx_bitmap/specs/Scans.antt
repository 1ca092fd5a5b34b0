-- Walks over lists of rows.
use Rattle.std.specs.Prelude.{◌≡◌, ℕ, List, Option, Some, None}
use Rattle.std.specs.List.{AllByRecursion}
use Rattle.gx_words.specs.PageMap.{PageMap}
use Rattle.gx_pages.specs.declared.row.RowRef.{RowRef}
use Rattle.gx_slot.specs.Slots.{spelling}
use Rattle.gx_heap.specs.Heaps.{Row, IsIn, refs}
use Rattle.gx_bitmap.specs.declared.rescan.KeptPage.{KeptPage}

-- What is left of a walk over rows: the rows, the test, and the page that is kept.
pub record Scan (K : Type 0) : Type 0 where
  pub left : List RowRef
  pub test : K
  pub kept : Option KeptPage

-- These are the rows of a heap that stand there, each with its bytes.
pub record AreCandidates (left : List RowRef) (rows candidates : List Row) : Type 0 where
  pub are : refs candidates ≡ left
  pub stand : AllByRecursion (λ row. IsIn row rows) candidates

-- The page that is kept, if any, is the map's.
abbrev pub IsKept : PageMap → Option KeptPage → Type 0
IsKept map None = Unit {0}
IsKept map (Some page) = map page.number ≡ Some (spelling page.slots)

-- its number, or 0
abbrev pub kept_page : Option KeptPage → ℕ
kept_page None = 0
kept_page (Some page) = page.number
