use Rattle.std.proofs.Common.{◌≡◌, ◌≤◌, ◌++◌}
use Rattle.gx_words.specs.Image.{Image}
use Rattle.gx_words.specs.Moments.{Goes}
use Rattle.gx_log.specs.Disks.{Leaves}
use Rattle.gx_pager.specs.Placed.{IsPlaced, IsReady, due}
use Rattle.gx_pager.proofs.Placing.{Places, AreThere}
use Rattle.gx_pager.proofs.checkpoint.write_pages.Given as goal

-- the places that were written
abbrev pub invariant-loop-page : goal.invariant-loop-page
invariant-loop-page g l = record {
  done : Places;
  split : l.kept.entries ≡ done ++ l.page-iterator;
  images : IsReady g.D.Disk l.fn.disk → (c : Image) → g.D.Disk.now_may_leave l.disk c → IsPlaced (due l.count l.kept) (g.D.Disk.told l.fn.disk) c;
  time : IsReady g.D.Disk l.fn.disk → Leaves g.D.Disk (IsPlaced (due l.count l.kept) (g.D.Disk.told l.fn.disk)) l.fn.disk l.disk;
  told : g.D.Disk.tells → IsPlaced (due l.count l.kept) (g.D.Disk.told l.fn.disk) (g.D.Disk.told l.disk);
  written : g.D.Disk.tells → AreThere (g.D.Disk.told l.disk).pages l.count done;
  said : g.D.Disk.said l.disk ≡ g.D.Disk.said l.fn.disk;
  goes : Goes g.D.Disk.moment g.D.Disk.may_have_left_since l.fn.disk l.disk;
  faults : g.D.Disk.faults l.fn.disk ≤ g.D.Disk.faults l.disk;
}
