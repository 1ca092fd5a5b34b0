-- Pages in memory: their bytes, and the maps of those below a count.
use Rattle.std.specs.Prelude.{ℕ, ◌^◌, ◌<◌, ◌≤◌, ◌==◌, nat_lt, if◌then◌else◌, List, Option, Some, None, Box, replicate, slice_index_or}
use Rattle.std.specs.declared.alloc.Global.{Global}
use Rattle.gx_words.specs.PageMap.{PageMap}
use Rattle.gx_pages.specs.Frees.{HasCount}

-- The bytes of all pages, whatever the count is.
abbrev pub Contents : Type 0
Contents = ℕ → List ℕ

-- A page that isn't kept is zeros.
abbrev pub bytes_of : Option (Box (List ℕ) Global) → List ℕ
bytes_of None = replicate 8192 0
bytes_of (Some page) = page.value

-- what was saved, or else what is now
abbrev pub saved_or : List ℕ → Option (Option (Box (List ℕ) Global)) → List ℕ
saved_or now None = now
saved_or now (Some old) = bytes_of old

-- the pages with other bytes for one of them
abbrev pub with_bytes : Contents → ℕ → List ℕ → Contents
with_bytes contents page bytes = λ n. if n == page then bytes else contents n

-- the pages below a count
abbrev pub below : ℕ → Contents → PageMap
below count contents = λ n. if nat_lt n count then Some (contents n) else None

-- pages from the first on, and zeros behind them
abbrev pub given : List (List ℕ) → Contents
given pages = λ n. slice_index_or pages n (replicate 8192 0)

-- There is a header, which has the count, and the count is no greater than it may be.
pub record IsCounted (contents : Contents) (count : ℕ) : Type 0 where
  pub some : 0 < count
  pub bounded : count ≤ 2 ^ 50
  pub header : HasCount (contents 0) count
