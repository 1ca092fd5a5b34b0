-- The rows of an index whose value is NULL, on pages.
use Rattle.std.specs.Prelude.{◌≡◌, ◌≢◌, ◌⊎◌, ℕ, List, []}
use Rattle.gx_words.specs.PageMap.{PageMap}
use Rattle.gx_pages.specs.declared.row.RowRef.{RowRef}
use Rattle.gx_posting_tree.specs.PostingTrees.{HoldsList}

-- there are none, and no page for them
pub record HasNone (nulls : ℕ) (rows : List RowRef) (feet : List ℕ) : Type 0 where
  pub no_root : nulls ≡ 0
  pub no_rows : rows ≡ []
  pub no_feet : feet ≡ []

-- there are some, and a posting tree has them
pub record HasSome (pages : PageMap) (count nulls : ℕ) (rows : List RowRef) (feet : List ℕ) : Type 0 where
  pub root : nulls ≢ 0
  pub some : rows ≢ []
  pub held : HoldsList pages count nulls rows feet

-- The map holds these rows below this root page, which is 0 where there are none, on these pages.
abbrev pub HoldsNulls : PageMap → ℕ → ℕ → List RowRef → List ℕ → Type 0
HoldsNulls pages count nulls rows feet = HasNone nulls rows feet ⊎ HasSome pages count nulls rows feet
