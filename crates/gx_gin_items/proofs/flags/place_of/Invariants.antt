use Rattle.gx_gin_items.proofs.PlaceLemmas.{Passed}
use Rattle.gx_gin_items.proofs.flags.place_of.Given as goal

abbrev pub invariant-loop-at : goal.invariant-loop-at
invariant-loop-at l = Passed l.items l.item l.at
