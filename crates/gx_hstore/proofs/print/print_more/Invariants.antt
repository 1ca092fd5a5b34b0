use Rattle.std.proofs.Common.{◌≡◌, ◌++◌, take, flat_map, codes}
use Rattle.gx_hstore.specs.Map.{Pair}
use Rattle.gx_hstore.specs.Printing.{printed_pair}
use Rattle.gx_hstore.proofs.print.print_more.Given as goal

abbrev pub invariant-loop-pair : goal.invariant-loop-pair
invariant-loop-pair l = l.to ≡ l.initial.to ++ flat_map (λ (pair : Pair). codes ", " ++ printed_pair pair) (take l.pair-index l.pairs)
