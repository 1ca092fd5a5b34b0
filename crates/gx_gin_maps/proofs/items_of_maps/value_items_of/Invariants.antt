use Rattle.std.proofs.Common.{◌≡◌, take, map}
use Rattle.gx_gin_items.specs.Items.{shortened}
use Rattle.gx_gin_maps.specs.Tests.{pair_item}
use Rattle.gx_gin_maps.proofs.items_of_maps.value_items_of.Given as goal

abbrev pub invariant-loop-pair : goal.invariant-loop-pair
invariant-loop-pair l = l.strings ≡ map shortened (map pair_item (take l.pair-index l.pairs))
