use Rattle.std.proofs.Common.{◌≡◌, map, take}
use Rattle.gx_json.proofs.print.by_length.Given as goal

abbrev pub invariant-loop-pair : goal.invariant-loop-pair
invariant-loop-pair l = map (λ r. r.now) l.order.items ≡ take l.pair-index l.pairs
