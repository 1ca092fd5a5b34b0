use Rattle.std.proofs.Common.{length}
use Rattle.gx_intarr.proofs.EncodingLemmas.{HasItems}
use Rattle.gx_intarr.proofs.encoding.items_from.Given as goal

abbrev pub invariant-numbers : goal.invariant-numbers
invariant-numbers l = HasItems l.bytes l.items.items l.rest

abbrev pub decreases-numbers : goal.decreases-numbers
decreases-numbers l = length l.rest
