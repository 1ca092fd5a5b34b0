-- Pages that are written in place, below an overlay that has them.
use Rattle.std.specs.Prelude.{◌≡◌, ℕ, ◌+◌, ◌*◌, ◌<◌, ◌≤◌, List, length, Option, Some, None, Box}
use Rattle.std.specs.declared.alloc.Global.{Global}
use Rattle.std.specs.BTreeMap.{BTreeMap, get}
use Rattle.std.specs.Ordering.{nat_cmp}
use Rattle.gx_words.specs.Image.{Image}
use Rattle.gx_words.specs.PageMap.{PageMap}
use Rattle.gx_disk.specs.declared.disk.Disk.{Ghosts}
use Rattle.gx_log.specs.Records.{piece}
use Rattle.gx_pager.specs.Layers.{shown}
use Rattle.gx_pager.specs.Maps.{cut}

-- No page is lacking before one of the overlay: each page before it is one of the overlay too, or whole in the area.
abbrev pub IsFilled : PageMap → List ℕ → Type 0
IsFilled overlay pages = (n k : ℕ) (bytes : List ℕ) → n < k → overlay k ≡ Some bytes → overlay n ≡ None → (n + 1) * 8192 ≤ length pages

-- The area has at least the bytes of before, and each page that the overlay hasn't is what it was.
pub record Placed (overlay : PageMap) (old new : List ℕ) : Type 0 where
  pub no_shorter : length old ≤ length new
  pub same : (n : ℕ) → overlay n ≡ None → piece new n ≡ piece old n

-- The image has the log of this one; where no page is lacking it has these pages in place; and each other page that was
-- there is there.
abbrev pub IsPlaced : PageMap → Image → Image → Type 0
IsPlaced overlay start c =
    (IsFilled overlay start.pages → Placed overlay start.pages c.pages) × (c.log ≡ start.log)
    × ((n : ℕ) (bytes : List ℕ) → overlay n ≡ None → piece start.pages n ≡ Some bytes → piece c.pages n ≡ Some bytes)

-- the pages below the count that have a place
abbrev pub due : ℕ → BTreeMap ℕ (Option (Box (List ℕ) Global)) → PageMap
due count kept = cut count (λ n. shown (get nat_cmp kept n))

-- nothing is pending
pub record IsReady {D : Type 0} (g : Ghosts D) (disk : D) : Type 0 where
  pub pages : (c : Image) → g.now_may_leave disk c → c.pages ≡ (g.told disk).pages
  pub log : (c : Image) → g.now_may_leave disk c → c.log ≡ (g.told disk).log
