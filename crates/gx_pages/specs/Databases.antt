-- An empty database, and what a taken or a given page makes of a map.
use Rattle.std.specs.Prelude.{ℕ, ◌+◌, List, [], ◌∷◌, ◌++◌, replicate}
use Rattle.gx_bytes.specs.Fields.{le16, le32, le64, paste}
use Rattle.gx_words.specs.PageMap.{PageMap, with_page}
use Rattle.gx_pages.specs.Contents.{below, given}
use Rattle.gx_pages.specs.Frees.{free_page_of}

-- The header: the bytes PGIX as a number, the format, the count, the first free page or 0, the first catalog page.
unfoldable pub header_of : ℕ → List ℕ
header_of count = le32 1481197392 ++ le32 2 ++ le64 count ++ le64 0 ++ le64 1 ++ replicate 8160 0

-- A catalog page is a slot page of kind 3. This one has no slots: kind, level, slots, the start of the items, zero, the
-- next page or 0, and zeros.
unfoldable pub catalog_page : List ℕ
catalog_page = 3 ∷ 0 ∷ le16 0 ++ le16 8192 ++ le16 0 ++ le64 0 ++ replicate 8176 0

-- the pages of an empty database
abbrev pub empty_pages : PageMap
empty_pages = below 2 (given (header_of 2 ∷ catalog_page ∷ []))

-- the page at the count was taken
abbrev pub grown : PageMap → List ℕ → ℕ → PageMap
grown map header count = with_page (with_page map 0 (paste header 8 (le64 (count + 1)))) count (replicate 8192 0)

-- the first free page was taken, and this one is next
abbrev pub unchained : PageMap → List ℕ → ℕ → ℕ → PageMap
unchained map header page next = with_page (with_page map 0 (paste header 16 (le64 next))) page (replicate 8192 0)

-- the page was given, and this one was the first free one
abbrev pub chained : PageMap → List ℕ → ℕ → ℕ → PageMap
chained map header page first = with_page (with_page map 0 (paste header 16 (le64 page))) page (free_page_of first)
