-- What opening a disk finds, and leaves.
use Rattle.std.specs.Prelude.{◌≡◌, ◌⊎◌, ℕ, ◌≤◌, List, length, Option, Some, None}
use Rattle.gx_words.specs.Image.{Image}
use Rattle.gx_words.specs.Moments.{Goes}
use Rattle.gx_disk.specs.declared.disk.Disk.{Ghosts}
use Rattle.gx_log.specs.Broken.{IsBroken}
use Rattle.gx_log.specs.Disks.{Leaves}
use Rattle.gx_log.specs.Records.{Record, Stands, laid_all, piece}
use Rattle.gx_log.specs.declared.error.LogError.{LogError}
use Rattle.gx_log.specs.declared.error.LogError.TheVariants as log
use Rattle.gx_pages.specs.declared.error.PageError.{PageError}
use Rattle.gx_pages.specs.declared.error.PageError.TheVariants as pages
use Rattle.gx_pager.specs.Headers.{wrong_field}

-- Page 0 isn't a header: it is short, or one of its numbers is wrong.
abbrev pub ZeroBroken : Option (List ℕ) → ℕ → ℕ → ℕ → Type 0
ZeroBroken None size expected found = (expected ≡ 8192) × (found ≡ size)
ZeroBroken (Some header) size expected found = wrong_field header ≡ Some (expected, found)

-- The disk can't be opened: its log is broken, or else page 0, as the counted records show it, isn't a header.
abbrev pub OpenBroken : Image → ℕ → ℕ → ℕ → Type 0
OpenBroken image page expected found =
    IsBroken image.log page expected found
    ⊎ ((page ≡ 0) × ((records : List Record) × Stands records image.log × ZeroBroken (laid_all (piece image.pages 0) 0 records) (length image.pages) expected found))

-- page 0 is there, and is a header
abbrev pub IsHeader : Option (List ℕ) → Type 0
IsHeader None = ⊥
IsHeader (Some header) = wrong_field header ≡ None

-- Opening writes nothing: the disk reads as before, and at each moment a crash leaves what it could leave before.
pub record Opening {D : Type 0} (g : Ghosts D) (old new : D) : Type 0 where
  pub told : g.told new ≡ g.told old
  pub said : g.said new ≡ g.said old
  pub faults : g.faults old ≤ g.faults new
  pub goes : Goes g.moment g.may_have_left_since old new
  pub images : g.tells → (c : Image) → g.now_may_leave new c → g.now_may_leave old c
  pub time : g.tells → Leaves g (g.now_may_leave old) old new

-- the error of a log, as one of pages
abbrev pub page_error : LogError → PageError
page_error log.DiskFault = pages.DiskFault
page_error (log.Broken page expected found) = pages.Broken page expected found
page_error log.Memory = pages.Memory
