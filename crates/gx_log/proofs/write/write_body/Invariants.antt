use Rattle.std.proofs.Common.{◌≡◌, ℕ, ◌+◌, ◌≤◌, List, ◌++◌, length}
use Rattle.std.specs.Prelude.{Box}
use Rattle.std.specs.declared.alloc.Global.{Global}
use Rattle.std.specs.List.{AllByRecursion}
use Rattle.gx_bytes.specs.Fields.{le64}
use Rattle.gx_words.specs.Image.{written}
use Rattle.gx_log.specs.Disks.{Writes}
use Rattle.gx_log.specs.Records.{IsEntry, record_of}
use Rattle.gx_log.proofs.Bodies.{entries_bytes}
use Rattle.gx_log.proofs.write.write_body.Given as goal

-- the entries that were added, what was written of them, and what is read then
abbrev pub invariant-loop-number : goal.invariant-loop-number
invariant-loop-number g l = record {
  done : List (ℕ × Box (List ℕ) Global);
  front : List ℕ;
  split : l.images.entries ≡ done ++ l.number-iterator;
  whole : AllByRecursion IsEntry (record_of done);
  bytes : front ++ l.part ≡ le64 (length l.images.entries) ++ entries_bytes (record_of done);
  room : length l.part ≤ 8208;
  place : l.place ≡ l.at + length front;
  writes : Writes g.D.Disk l.at (length front) l.fn.disk l.disk;
  told : g.D.Disk.tells → l.at ≤ length (g.D.Disk.told l.fn.disk).log → (g.D.Disk.told l.disk).log ≡ written (g.D.Disk.told l.fn.disk).log l.at front;
}
