-- The count, and then the numbers.
use Rattle.gx_intarr.proofs.EncodingLemmas.{on_more, appends}
use Rattle.gx_intarr.proofs.array.IntArray.encode.Goals as goal

pub returns : goal.returns
returns c = on_more c.push_items.result _ _ (λ e. appends c.args.to.now c.push_varint.new.to c.push_items.new.to c.args.self.now c.items.result.now c.items-2.result.now c.items.ensures c.items-2.ensures c.in_ok-push_varint.ensures.ok e) c.push_items.ensures
