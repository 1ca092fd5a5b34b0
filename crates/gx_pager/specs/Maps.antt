-- Maps that end at a count.
use Rattle.std.specs.Prelude.{ℕ, nat_lt, if◌then◌else◌, None}
use Rattle.gx_words.specs.PageMap.{PageMap}

-- the pages below a count
abbrev pub cut : ℕ → PageMap → PageMap
cut count map = λ n. if nat_lt n count then map n else None
