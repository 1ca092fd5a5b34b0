use Rattle.std.proofs.Common.{◌≡◌, ◌++◌, take}
use Rattle.gx_intarr.proofs.PrintLemmas.{with_commas}
use Rattle.gx_intarr.proofs.print.print_more.Given as goal

abbrev pub invariant-loop-number : goal.invariant-loop-number
invariant-loop-number l = l.to ≡ l.initial.to ++ with_commas (take l.number-index l.items)
