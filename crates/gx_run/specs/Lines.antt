-- The lines of a run that finds no database, and what answers leave of a disk.
use Rattle.std.specs.Prelude.{◌≡◌, ◌↔◌, ℕ, List, ◌++◌, codes}
use Rattle.std.specs.Fmt.{decimal}
use Rattle.gx_words.specs.Image.{Image}
use Rattle.gx_disk.specs.declared.disk.Disk.{Ghosts}

abbrev pub broken_line : ℕ → ℕ → ℕ → List ℕ
broken_line page expected found =
    codes "FATAL broken page " ++ decimal page ++ codes " expected " ++ decimal expected ++ codes " found " ++ decimal found ++ codes "\n"

abbrev pub size_line : ℕ → List ℕ
size_line size = codes "FATAL size " ++ decimal size ++ codes "\n"

-- The disk is as it was: what it reads as, its count of faults, and what a crash may leave.
pub record IsDiskKept {H : Type 0} (g : Ghosts H) (old new : H) : Type 0 where
  pub told : g.told new ≡ g.told old
  pub faults : g.faults new ≡ g.faults old
  pub images : (c : Image) → g.now_may_leave new c ↔ g.now_may_leave old c
