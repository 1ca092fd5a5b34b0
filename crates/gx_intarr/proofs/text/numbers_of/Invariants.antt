use Rattle.std.proofs.Common.{take}
use Rattle.gx_intarr.specs.Arrays.{AreNumbers}
use Rattle.gx_intarr.proofs.text.numbers_of.Given as goal

abbrev pub invariant-loop-text : goal.invariant-loop-text
invariant-loop-text l = AreNumbers (take l.text-index l.text-items) l.numbers.items
