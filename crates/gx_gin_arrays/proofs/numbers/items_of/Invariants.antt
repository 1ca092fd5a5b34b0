use Rattle.std.proofs.Common.{◌≡◌, take, map}
use Rattle.gx_gin_arrays.specs.Numbers.{number_item}
use Rattle.gx_gin_arrays.proofs.numbers.items_of.Given as goal

abbrev pub invariant-loop-number : goal.invariant-loop-number
invariant-loop-number l = l.strings ≡ map number_item (take l.number-index l.numbers)
