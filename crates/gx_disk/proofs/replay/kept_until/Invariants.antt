use Rattle.std.proofs.Common.{◌≡◌, reverse, length}
use Rattle.gx_disk.specs.Events.{until}
use Rattle.gx_disk.proofs.replay.kept_until.Given as goal

abbrev pub invariant-loop-last : goal.invariant-loop-last
invariant-loop-last l = until l.calls (reverse l.kept) ≡ until l.calls (reverse l.events)

abbrev pub decreases-loop-last : goal.decreases-loop-last
decreases-loop-last l = length l.kept
