-- No second text.
use Rattle.gx_class_ltree.proofs.ReadFacts.{no_second}
use Rattle.gx_class_ltree.proofs.read.texts_from.Goals as goal

pub returns-in_default-text_from : goal.returns-in_default-text_from
returns-in_default-text_from c = no_second c.args.bytes.now c.in-Some.behind.now c.in-Some.low.now c.in-Some.low_cut c.in-Some.ensures c.in_default-text_from.ensures
