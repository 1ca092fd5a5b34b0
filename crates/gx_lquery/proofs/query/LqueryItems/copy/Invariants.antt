use Rattle.std.proofs.Common.{◌≡◌, take}
use Rattle.gx_lquery.proofs.query.LqueryItems.copy.Given as goal

abbrev pub invariant-loop-item : goal.invariant-loop-item
invariant-loop-item l = l.copy ≡ take l.item-index l.item-items
