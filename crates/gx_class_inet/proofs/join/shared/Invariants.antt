use Rattle.std.proofs.Common.{◌≡◌, ◌-◌}
use Rattle.gx_class_inet.specs.Keys.{shared}
use Rattle.gx_class_inet.proofs.join.shared.Given as goal

abbrev pub invariant-loop-lost : goal.invariant-loop-lost
invariant-loop-lost l = shared l.width l.x l.y l.limit ≡ shared l.width l.x l.y (l.limit - l.lost)
