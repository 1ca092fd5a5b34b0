use Rattle.std.proofs.Common.{◌≡◌, true, length, ◌-◌, ◌≤◌, take}
use Rattle.std.specs.List.{AllByRecursion}
use Rattle.gx_lquery.specs.Text.{is_mark}
use Rattle.gx_ltxtquery.proofs.word.marks_length.Given as goal

abbrev pub invariant-loop-length : goal.invariant-loop-length
invariant-loop-length l = (l.length ≤ length l.text) × AllByRecursion (λ c. is_mark c ≡ true) (take l.length l.text)

abbrev pub decreases-loop-length : goal.decreases-loop-length
decreases-loop-length l = length l.text - l.length
