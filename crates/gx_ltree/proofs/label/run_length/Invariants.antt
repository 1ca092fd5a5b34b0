use Rattle.std.proofs.Common.{length, ◌-◌, ◌≤◌, take}
use Rattle.std.specs.List.{AllByRecursion}
use Rattle.gx_ltree.specs.Label.{IsLabelByte}
use Rattle.gx_ltree.proofs.label.run_length.Given as goal

abbrev pub invariant-loop-length : goal.invariant-loop-length
invariant-loop-length l = (l.length ≤ length l.text) × AllByRecursion IsLabelByte (take l.length l.text)

abbrev pub decreases-loop-length : goal.decreases-loop-length
decreases-loop-length l = length l.text - l.length
