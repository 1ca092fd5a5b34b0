-- By the first brace.
use Rattle.gx_lquery.proofs.SplitLemmas.{cut_found, cut_none}
use Rattle.gx_lquery.proofs.TextLemmas.{item_by}
use Rattle.gx_lquery.proofs.text.item_of.Goals as goal

pub returns-in-None : goal.returns-in-None
returns-in-None c = item_by _ _ c.args.text.now c.item_with.result (cut_none 123 c.args.text.now (rw c.in-None.is at c.cut_at.ensures.none)) c.item_with.ensures

pub returns-in-Some : goal.returns-in-Some
returns-in-Some c = item_by _ _ c.args.text.now c.item_with-in-Some.result (cut_found 123 c.args.text.now c.in-Some.body.now c.in-Some.count.now (rw c.in-Some.is at c.cut_at.ensures.some)) c.item_with-in-Some.ensures
