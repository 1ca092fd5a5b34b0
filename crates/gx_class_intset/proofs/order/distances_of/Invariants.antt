use Rattle.std.proofs.Common.{◌≡◌, take, map}
use Rattle.gx_class_intset.specs.Keys.{far}
use Rattle.gx_class_intset.proofs.order.distances_of.Given as goal

abbrev pub invariant-loop-key : goal.invariant-loop-key
invariant-loop-key l = l.distances.items ≡ map (λ key. far l.first key) (take l.key-index l.keys)
