-- Pages that are cached.
use Rattle.std.specs.Prelude.{◌≡◌, ℕ, nat_eq, List, Option, Some, Box, Contains}
use Rattle.std.specs.Map.{lookup}
use Rattle.std.specs.declared.alloc.Global.{Global}
use Rattle.gx_words.specs.PageMap.{PageMap}
use Rattle.gx_log.specs.Records.{page_in}

-- each cached page is the map's page
abbrev pub Agrees : PageMap → List (ℕ × Box (List ℕ) Global) → Type 0
Agrees map entries = (k : ℕ) (page : Box (List ℕ) Global) → Contains entries (k, page) → map k ≡ Some page.value

-- the cached page of this number
abbrev pub cached : List (ℕ × Box (List ℕ) Global) → ℕ → Option (List ℕ)
cached entries page = page_in (lookup (nat_eq page) entries)
