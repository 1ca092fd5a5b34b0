-- What was read of a disk.
use Rattle.std.specs.Prelude.{◌≡◌, ℕ, List}
use Rattle.gx_words.specs.PageMap.{PageMap}
use Rattle.gx_disk.specs.declared.disk.Disk.{Ghosts}
use Rattle.gx_log.specs.Records.{Record, Stands, entries_in}
use Rattle.gx_pager.specs.Cached.{Agrees}
use Rattle.gx_pager.specs.Known.{IsSound}
use Rattle.gx_pager.specs.Memory.{overlay, changed}
use Rattle.gx_pager.specs.declared.open.Opened.{Opened}

-- It is what the disk holds: nothing is changed or cached yet, and so many entries wait as the counted records have.
pub record IsRead {D : Type 0} (g : Ghosts D) (disk : D) (opened : Opened) : Type 0 where
  pub sound : g.tells → IsSound g disk opened.log opened.layers.header (overlay opened.layers)
  pub unit : changed opened.layers ≡ 0
  pub count : opened.layers.count ≡ opened.layers.committed_count
  pub agrees : (map : PageMap) → Agrees map opened.cache.pages.entries
  pub waits : g.tells → (records : List Record) → Stands records (g.told disk).log → opened.waiting ≡ entries_in records
