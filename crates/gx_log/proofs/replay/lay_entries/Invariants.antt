use Rattle.std.proofs.Common.{◌≡◌, ℕ, ◌+◌, ◌*◌, ◌≤◌, length, drop}
use Rattle.std.specs.BTreeMap.{get}
use Rattle.std.specs.Ordering.{nat_cmp}
use Rattle.gx_log.specs.Disks.{Reads}
use Rattle.gx_log.specs.Places.{cut}
use Rattle.gx_log.specs.Records.{laid, page_in}
use Rattle.gx_log.proofs.replay.lay_entries.Given as goal

abbrev pub invariant-loop-k : goal.invariant-loop-k
invariant-loop-k g l = record {
  reads : Reads g.D.Disk l.fn.disk l.disk;
  so_far : g.D.Disk.tells → l.from + 8200 * l.count ≤ length (g.D.Disk.told l.fn.disk).log → (page : ℕ)
      → page_in (get nat_cmp l.into page) ≡ laid (page_in (get nat_cmp l.fn.into page)) page (cut 8 8192 l.k (drop l.from (g.D.Disk.told l.fn.disk).log));
}
