-- Pages by their numbers.
use Rattle.std.specs.Prelude.{ℕ, ◌==◌, if◌then◌else◌, List, Option, Some}

-- The bytes of each page, or none where there is no such page.
abbrev pub PageMap : Type 0
PageMap = ℕ → Option (List ℕ)

-- The map with these bytes for one page.
abbrev pub with_page : PageMap → ℕ → List ℕ → PageMap
with_page map page bytes = λ n. if n == page then Some bytes else map n
