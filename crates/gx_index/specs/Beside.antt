-- A structure on pages, with free pages beside it.
use Rattle.std.specs.Prelude.{ℕ, List, ◌++◌}
use Rattle.gx_words.specs.PageMap.{PageMap}
use Rattle.gx_pages.specs.declared.store.Pages.{Ghosts}
use Rattle.gx_pages.specs.Frees.{IsApart, IsFreeList}

-- the pages hold the structure on these pages, and beside it these free pages
pub record Beside {P : Type 0} (g : Ghosts P) (Holds : PageMap → ℕ → List ℕ → Type 0) (pages : P) (feet free : List ℕ) : Type 0 where
  pub held : Holds (g.map pages) (g.count pages) feet
  pub frees : IsFreeList (g.map pages) (g.count pages) free
  pub apart : IsApart (feet ++ free)
