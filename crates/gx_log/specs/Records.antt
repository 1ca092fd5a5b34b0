-- The records of a log, and the pages that an image stands for.
--
-- At a place of the log stands a gate, which is one byte. Behind an open gate, which is 1, stands the body of a record:
-- the number of its entries in eight bytes, and for each entry the number of a page in eight bytes and the page's
-- 8,192 bytes. Behind a body stands the next gate. A record counts where its gate and all gates before it are open.
use Rattle.std.specs.Prelude.{◌≡◌, ◌≢◌, ◌==◌, ◌&&◌, ℕ, ◌+◌, ◌*◌, ◌<◌, ◌^◌, nat_lt, nat_le, if◌then◌else◌, List, [], ◌∷◌, ◌++◌, length, take, drop, map, Option, Some, None, Box}
use Rattle.std.specs.declared.alloc.Global.{Global}
use Rattle.std.specs.List.{flat_map, AllByRecursion}
use Rattle.gx_words.specs.Image.{Image}
use Rattle.gx_words.specs.PageMap.{PageMap}
use Rattle.gx_bytes.specs.Fields.{le64, of64}

-- the eight bytes of a page's number, and the bytes of the page
abbrev pub Entry : Type 0
Entry = List ℕ × List ℕ

abbrev pub Record : Type 0
Record = List Entry

abbrev pub IsEntry : Entry → Type 0
IsEntry entry = (length entry.0 ≡ 8) × (length entry.1 ≡ 8192)

pub record IsRecord (entries : Record) : Type 0 where
  pub count : length entries < 2 ^ 64
  pub whole : AllByRecursion IsEntry entries

abbrev pub entry_bytes : Entry → List ℕ
entry_bytes entry = entry.0 ++ entry.1

unfoldable pub body : Record → List ℕ
body entries = le64 (length entries) ++ flat_map entry_bytes entries

-- records behind open gates
abbrev pub opened : List Record → List ℕ
opened [] = []
opened (entries ∷ records) = 1 ∷ body entries ++ opened records

-- The counted records of the log are these: behind them stands a gate that isn't open, and whatever stands behind it.
pub record Stands (records : List Record) (log : List ℕ) : Type 0 where
  pub gate : ℕ
  pub rest : List ℕ
  pub bytes : log ≡ opened records ++ gate ∷ rest
  pub shut : gate ≢ 1
  pub sound : AllByRecursion IsRecord records

-- What stands for a page when a record is laid over what stood for it before: the last of the record's entries of
-- this page, or what stood there. Entries of pages from 2^50 on are passed by.
abbrev pub laid : Option (List ℕ) → ℕ → Record → Option (List ℕ)
laid before page [] = before
laid before page (entry ∷ entries) =
    laid (if nat_lt (of64 entry.0) (2 ^ 50) && (of64 entry.0 == page) then Some entry.1 else before) page entries

-- the same of several records, laid one over the other
abbrev pub laid_all : Option (List ℕ) → ℕ → List Record → Option (List ℕ)
laid_all before page [] = before
laid_all before page (entries ∷ records) = laid_all (laid before page entries) page records

-- a page of the area Pages, where all its bytes are there
abbrev pub piece : List ℕ → ℕ → Option (List ℕ)
piece pages page = if nat_le ((page + 1) * 8192) (length pages) then Some (take 8192 (drop (page * 8192) pages)) else None

-- The pages of an image: those of its area Pages, and the counted records of its log laid over them.
pub record HasPages (image : Image) (pages : PageMap) : Type 0 where
  pub records : List Record
  pub counted : Stands records image.log
  pub are : (page : ℕ) → pages page ≡ laid_all (piece image.pages page) page records

-- How many pages page 0 names, at its byte 8; none where there is no page 0.
abbrev pub count_in : Option (List ℕ) → ℕ
count_in None = 0
count_in (Some header) = of64 (take 8 (drop 8 header))

-- the pages below the count that page 0 names
abbrev pub counted_pages : PageMap → PageMap
counted_pages all = λ n. if nat_lt n (count_in (all 0)) then all n else None

-- The map that an image stands for: its pages below the count on its page 0.
pub record HasMap (image : Image) (map : PageMap) : Type 0 where
  pub all : PageMap
  pub pages : HasPages image all
  pub are : (page : ℕ) → map page ≡ counted_pages all page

-- how many entries these records have
abbrev pub entries_in : List Record → ℕ
entries_in [] = 0
entries_in (entries ∷ records) = length entries + entries_in records

-- the bytes of a page in a box
abbrev pub page_in : Option (Box (List ℕ) Global) → Option (List ℕ)
page_in None = None
page_in (Some page) = Some page.value

-- the record of these pages, by their numbers
abbrev pub record_of : List (ℕ × Box (List ℕ) Global) → Record
record_of images = map (λ image. (le64 image.0, image.1.value)) images
