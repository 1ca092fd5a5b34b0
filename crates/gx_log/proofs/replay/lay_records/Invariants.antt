use Rattle.std.proofs.Common.{◌≡◌, ℕ, ◌-◌, ◌*◌, ◌≤◌, List}
use Rattle.std.specs.BTreeMap.{get}
use Rattle.std.specs.Ordering.{nat_cmp}
use Rattle.gx_log.specs.Disks.{Reads}
use Rattle.gx_log.specs.Records.{Record, entries_in, laid_all, page_in}
use Rattle.gx_log.proofs.Finding.{SoFar}
use Rattle.gx_log.proofs.replay.lay_records.Given as goal

-- the records found so far, which are laid over the images
abbrev pub invariant-loop-end : goal.invariant-loop-end
invariant-loop-end g l = record {
  reads : Reads g.D.Disk l.fn.disk l.disk;
  within : l.place ≤ l.size;
  few : 8200 * l.entries ≤ l.place;
  found : g.D.Disk.tells → (records : List Record) × SoFar (g.D.Disk.told l.fn.disk).log l.place records
      × (l.entries ≡ entries_in records) × ((page : ℕ) → page_in (get nat_cmp l.into page) ≡ laid_all (page_in (get nat_cmp l.fn.into page)) page records);
}

abbrev pub decreases-loop-end : goal.decreases-loop-end
decreases-loop-end g l = l.size - l.place
