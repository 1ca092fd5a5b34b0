-- Two neighbours that don't rise, and the end.
use Rattle.std.proofs.Common.{sym, arith, refl, true≢false}
use Rattle.gx_hstore.proofs.MapLemmas.{neighbours, map_from_adjacent}
use Rattle.gx_hstore.proofs.order.is_map.Goals as goal

pub returns-then-not-stands_before : goal.returns-then-not-stands_before
returns-then-not-stands_before c =
    (λ t. absurd (true≢false (sym t)), λ m. c.if-not-stands_before.ensures.1 (neighbours c.args.pairs.now c.loop-at.at c.index-pairs-at.result c.index-pairs-at-in-loop-at.result c.loop-at.auto.at (omega arith) c.index-pairs-at.is c.index-pairs-at-in-loop-at.is m))

pub returns : goal.returns
returns c = (λ _. map_from_adjacent c.args.pairs.now (λ k d high. c.loop-at.invariant k d (omega arith)), λ _. refl)
