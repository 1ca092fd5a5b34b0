-- Pages in layers: those of the unit, those since the last checkpoint, and those of the area Pages.
use Rattle.std.specs.Prelude.{ℕ, ◌==◌, if◌then◌else◌, List, Option, Some, None, Box}
use Rattle.std.specs.declared.alloc.Global.{Global}
use Rattle.gx_words.specs.Image.{Image}
use Rattle.gx_words.specs.PageMap.{PageMap}
use Rattle.gx_log.specs.Records.{piece, page_in}

-- what lies above, or else what is below
abbrev pub over : Option (List ℕ) → Option (List ℕ) → Option (List ℕ)
over None below = below
over (Some page) below = Some page

-- a place that is only kept free has no page
abbrev pub shown : Option (Option (Box (List ℕ) Global)) → Option (List ℕ)
shown None = None
shown (Some place) = page_in place

-- page 0 of the unit, or else the committed one
abbrev pub header_over : Option (List ℕ) → List ℕ → List ℕ
header_over None header = header
header_over (Some page) header = page

-- one map of pages over another
abbrev pub map_over : PageMap → PageMap → PageMap
map_over above below = λ n. over (above n) (below n)

-- the pages of the area Pages
abbrev pub pieces : Image → PageMap
pieces image = λ n. piece image.pages n

-- the committed pages that are in memory: page 0 is, and so are those since the last checkpoint
abbrev pub committed_in : List ℕ → PageMap → PageMap
committed_in header overlay = λ n. if n == 0 then Some header else overlay n
