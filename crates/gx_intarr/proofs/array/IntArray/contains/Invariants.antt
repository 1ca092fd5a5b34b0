use Rattle.std.proofs.Common.{take, All, Contains}
use Rattle.gx_intarr.proofs.array.IntArray.contains.Given as goal

abbrev pub invariant-loop-number : goal.invariant-loop-number
invariant-loop-number l = All (λ n. Contains l.self n) (take l.number-index l.number-items)
