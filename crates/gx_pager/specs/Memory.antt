-- The pages that are in memory, and the maps that they make of an image.
use Rattle.std.specs.Prelude.{◌≡◌, ℕ, List, true, is_some}
use Rattle.std.specs.BTreeMap.{get, btree_map_len}
use Rattle.std.specs.Ordering.{nat_cmp}
use Rattle.gx_words.specs.Image.{Image}
use Rattle.gx_words.specs.PageMap.{PageMap}
use Rattle.gx_log.specs.Records.{page_in}
use Rattle.gx_pager.specs.Layers.{shown, pieces, map_over, header_over, committed_in}
use Rattle.gx_pager.specs.Maps.{cut}
use Rattle.gx_pager.specs.declared.layers.Layers.{Layers}

-- the pages since the last checkpoint
abbrev pub overlay : Layers → PageMap
overlay layers = λ n. shown (get nat_cmp layers.kept n)

abbrev pub unit : Layers → PageMap
unit layers = λ n. page_in (get nat_cmp layers.unit n)

-- how many pages the unit has: those that were put, taken or given in it
abbrev pub changed : Layers → ℕ
changed layers = btree_map_len layers.unit

abbrev pub committed_memory : Layers → PageMap
committed_memory layers = committed_in layers.header (overlay layers)

abbrev pub memory : Layers → PageMap
memory layers = map_over (unit layers) (committed_memory layers)

-- the page may be written
abbrev pub IsOpen : Layers → ℕ → Type 0
IsOpen layers page = is_some (get nat_cmp layers.unit page) ≡ true

-- page 0, as it is now
abbrev pub header_now : Layers → List ℕ
header_now layers = header_over (unit layers 0) layers.header

-- the map of now, and the committed one
abbrev pub now_map : Layers → Image → PageMap
now_map layers image = cut layers.count (map_over (memory layers) (pieces image))

abbrev pub committed_map : Layers → Image → PageMap
committed_map layers image = cut layers.committed_count (map_over (committed_memory layers) (pieces image))

-- What is committed stays: the pages since the last checkpoint, page 0 and the count.
pub record Keeps (old new : Layers) : Type 0 where
  pub overlay : overlay new ≡ overlay old
  pub header : new.header ≡ old.header
  pub count : new.committed_count ≡ old.committed_count
