use Rattle.std.proofs.Common.{◌≡◌, ◌+◌, ◌≤◌, length, drop}
use Rattle.gx_class_ltree.specs.Keys.{front}
use Rattle.gx_class_ltree.proofs.parts.front_count.Given as goal

abbrev pub invariant-loop-label : goal.invariant-loop-label
invariant-loop-label l = (l.count ≤ l.label-index) × (l.room ≤ 600) × (length (front 600 l.labels) ≡ l.count + length (front l.room (drop l.label-index l.labels)))
