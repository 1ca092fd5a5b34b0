-- What an index loses when rows are taken out of it, key by key.
use Rattle.std.specs.Prelude.{◌≡◌, ℕ, if◌then◌else◌, List, ◌++◌}
use Rattle.std.specs.Str.{bytes_eq}
use Rattle.gx_pages.specs.declared.row.RowRef.{RowRef}
use Rattle.gx_pages.specs.declared.store.Pages.{Ghosts}
use Rattle.gx_pages.specs.Footprints.{KeepsPages}
use Rattle.gx_posting_tree.specs.PostingTrees.{without}
use Rattle.gx_gin_entry.specs.EntryTrees.{Entry}
use Rattle.gx_gin_scan.specs.Gins.{HoldsGin}
use Rattle.gx_gin_scan.specs.Lists.{Lists, rows_under}

-- Rows left the list of a key, whose entry went where none is left; all else stays.
pub record LosesRows {P : Type 0} (g : Ghosts P) (old new : P) (root : ℕ) (lists : Lists) (feet free : List ℕ) (front : List Entry) (key : List ℕ) (back : List Entry) (gone : List RowRef) : Type 0 where
  pub after : Lists
  pub later : List ℕ
  pub rest : List ℕ
  pub gin : HoldsGin g new root after later rest
  pub middle : List Entry
  pub entries : gin.held.entries ≡ front ++ middle ++ back
  pub keeps : KeepsPages g old new feet free later rest
  pub under : (k : List ℕ) → rows_under after k ≡ if bytes_eq key k then without gone (rows_under lists k) else rows_under lists k

-- Rows left the lists of all keys.
pub record LosesAll {P : Type 0} (g : Ghosts P) (old new : P) (root : ℕ) (lists : Lists) (feet free : List ℕ) (gone : List RowRef) : Type 0 where
  pub after : Lists
  pub later : List ℕ
  pub rest : List ℕ
  pub gin : HoldsGin g new root after later rest
  pub keeps : KeepsPages g old new feet free later rest
  pub under : (k : List ℕ) → rows_under after k ≡ without gone (rows_under lists k)
