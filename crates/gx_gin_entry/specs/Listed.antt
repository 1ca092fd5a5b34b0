-- Entries that were read.
use Rattle.std.specs.Prelude.{List, map}
use Rattle.gx_gin_entry.specs.EntryTrees.{Entry}
use Rattle.gx_gin_entry.specs.declared.listing.EntryBytes.{EntryBytes}

abbrev pub entries_of : List EntryBytes → List Entry
entries_of list = map (λ entry. (entry.key, entry.posting)) list
