use Rattle.std.proofs.Common.{length, ◌-◌, ◌≤◌, take}
use Rattle.gx_intarr.specs.Runs.{Pass}
use Rattle.gx_intarr.specs.Texts.{is_plain}
use Rattle.gx_intarr.proofs.elements.plain_length.Given as goal

abbrev pub invariant-loop-length : goal.invariant-loop-length
invariant-loop-length l = (l.length ≤ length l.bytes) × Pass is_plain (take l.length l.bytes)

abbrev pub decreases-loop-length : goal.decreases-loop-length
decreases-loop-length l = length l.bytes - l.length
