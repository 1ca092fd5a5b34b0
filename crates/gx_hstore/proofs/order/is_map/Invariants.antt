use Rattle.std.proofs.Common.{◌≡◌, ℕ, ◌+◌, ◌<◌, get_or}
use Rattle.std.specs.declared.cmp.Ordering.TheVariants.{Less}
use Rattle.gx_hstore.specs.Map.{Pair, key_order}
use Rattle.gx_hstore.proofs.order.is_map.Given as goal

abbrev pub invariant-loop-at : goal.invariant-loop-at
invariant-loop-at l = (k : ℕ) (d : Pair) → k + 1 < l.at → key_order (get_or l.pairs k d).0 (get_or l.pairs (k + 1) d).0 ≡ Less
