use Rattle.std.proofs.Common.{◌-◌, ◌≤◌, List}
use Rattle.gx_log.specs.Disks.{Reads}
use Rattle.gx_log.specs.Records.{Record}
use Rattle.gx_log.proofs.Finding.{SoFar}
use Rattle.gx_log.proofs.scan.find_front.Given as goal

-- the records found so far
abbrev pub invariant-loop-end : goal.invariant-loop-end
invariant-loop-end g l = record {
  reads : Reads g.D.Disk l.fn.disk l.disk;
  within : l.place ≤ l.size;
  found : g.D.Disk.tells → (records : List Record) × SoFar (g.D.Disk.told l.fn.disk).log l.place records;
}

abbrev pub decreases-loop-end : goal.decreases-loop-end
decreases-loop-end g l = l.size - l.place
