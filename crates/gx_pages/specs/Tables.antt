-- What a table of pages stands for.
use Rattle.std.specs.Prelude.{◌≡◌, ℕ, true, is_some}
use Rattle.std.specs.BTreeMap.{get}
use Rattle.std.specs.Ordering.{nat_cmp}
use Rattle.gx_words.specs.PageMap.{PageMap}
use Rattle.gx_pages.specs.Contents.{Contents, bytes_of, saved_or, below}
use Rattle.gx_pages.specs.declared.table.PageTable.{PageTable}

abbrev pub now_at : PageTable → Contents
now_at table = λ n. bytes_of (get nat_cmp table.pages n)

abbrev pub was_at : PageTable → Contents
was_at table = λ n. saved_or (now_at table n) (get nat_cmp table.saved n)

-- what the page was at the last commit is saved
abbrev pub IsOpen : PageTable → ℕ → Type 0
IsOpen table page = is_some (get nat_cmp table.saved page) ≡ true

abbrev pub map_of : PageTable → PageMap
map_of table = below table.count (now_at table)

abbrev pub committed_of : PageTable → PageMap
committed_of table = below table.committed_count (was_at table)
