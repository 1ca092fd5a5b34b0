use Rattle.std.proofs.Common.{◌≡◌, ◌++◌, take}
use Rattle.gx_intarr.specs.Arrays.{items_bytes}
use Rattle.gx_intarr.proofs.encoding.push_items.Given as goal

abbrev pub invariant-loop-number : goal.invariant-loop-number
invariant-loop-number l = l.to ≡ l.initial.to ++ items_bytes (take l.number-index l.items)
