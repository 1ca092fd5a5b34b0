-- What making a database leaves.
use Rattle.std.specs.Prelude.{◌≡◌, ◌↔◌, ℕ, ◌<◌, ◌++◌, length}
use Rattle.gx_words.specs.Image.{Image}
use Rattle.gx_disk.specs.declared.disk.Disk.{Ghosts}
use Rattle.gx_run.specs.Lines.{size_line}

-- The area Pages has so many bytes, which were answered; the disk is as it was.
pub record AnswersSize {H : Type 0} (g : Ghosts H) (old new : H) : Type 0 where
  pub size : ℕ
  pub some : 0 < size
  pub told : g.tells → size ≡ length (g.told old).pages
  pub said : g.tells → (g.said new).bytes ≡ (g.said old).bytes ++ size_line size
  pub same : g.told new ≡ g.told old
  pub images : (c : Image) → g.now_may_leave new c ↔ g.now_may_leave old c
