use Rattle.std.proofs.Common.{◌≡◌, ◌*◌, take, map}
use Rattle.gx_sig.specs.BitSets.{differing}
use Rattle.gx_class_sets.proofs.distance.distances_of.Given as goal

abbrev pub invariant-loop-key : goal.invariant-loop-key
invariant-loop-key g l = l.distances.items ≡ map (λ key. differing l.first key (8 * g.row.N)) (take l.key-index l.keys)
