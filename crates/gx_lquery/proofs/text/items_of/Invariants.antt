use Rattle.std.proofs.Common.{length}
use Rattle.gx_lquery.specs.Text.{SpellsItem}
use Rattle.gx_lquery.proofs.SplitLemmas.{HasSplit}
use Rattle.gx_lquery.proofs.text.items_of.Given as goal

abbrev pub invariant-loop-piece : goal.invariant-loop-piece
invariant-loop-piece l = HasSplit SpellsItem 46 l.text l.rest l.items

abbrev pub decreases-loop-piece : goal.decreases-loop-piece
decreases-loop-piece l = length l.rest
