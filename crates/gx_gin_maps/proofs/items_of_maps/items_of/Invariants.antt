use Rattle.std.proofs.Common.{◌≡◌, take, map}
use Rattle.gx_hstore_items.specs.Items as hstore
use Rattle.gx_gin_items.specs.Items.{shortened}
use Rattle.gx_gin_maps.proofs.items_of_maps.items_of.Given as goal

abbrev pub invariant-loop-pair : goal.invariant-loop-pair
invariant-loop-pair l = l.strings ≡ map shortened (hstore.items (take l.pair-index l.pairs))
