use Rattle.gx_pages.proofs.Sorting.{Climbs}
use Rattle.gx_pages.proofs.bitmap.are_rising.Given as goal

abbrev pub invariant-loop-at : goal.invariant-loop-at
invariant-loop-at l = Climbs l.rows l.at
