use Rattle.std.proofs.Common.{◌≡◌, take, map}
use Rattle.gx_gin_items.specs.Items.{shortened}
use Rattle.gx_gin_documents.specs.Items.{key_item}
use Rattle.gx_gin_documents.proofs.items_of_documents.key_items_of.Given as goal

abbrev pub invariant-loop-key : goal.invariant-loop-key
invariant-loop-key l = l.strings ≡ map shortened (map key_item (take l.key-index l.keys))
