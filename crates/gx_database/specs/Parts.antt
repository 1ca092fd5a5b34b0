-- What a map of pages is made of: a catalog, heaps and free pages.
use Rattle.std.specs.Prelude.{◌≡◌, ℕ, List, [], ◌∷◌, ◌++◌}
use Rattle.std.specs.List.{AllByRecursion, flat_map, range_with_len}
use Rattle.std.specs.List.Sorted.{IsPermutation}
use Rattle.gx_words.specs.PageMap.{PageMap}
use Rattle.gx_pages.specs.Frees.{IsFreeList}
use Rattle.gx_catalog.specs.Catalogs.{Stores}
use Rattle.gx_catalog.specs.declared.info.TableInfo.{TableInfo}
use Rattle.gx_database.specs.Heaps.{Stored, StoresHeap}

-- the pages of heaps
abbrev pub feet_of : List Stored → List ℕ
feet_of heaps = flat_map (λ h. h.feet) heaps

-- The map has the catalog of these tables, and no index, on these pages; these heaps; and these free pages. Each page below the count is
-- page 0 or belongs to one of them, and none belongs to two.
pub record HasParts (pages : PageMap) (count : ℕ) (tables : List TableInfo) (feet : List ℕ) (heaps : List Stored) (free : List ℕ) : Type 0 where
  pub catalog : Stores pages count tables [] feet
  pub stored : AllByRecursion (StoresHeap pages count) heaps
  pub frees : IsFreeList pages count free
  pub once : IsPermutation (0 ∷ feet ++ feet_of heaps ++ free) (range_with_len 0 count)
