-- The field, and the flag behind it.
use Rattle.gx_class_ltree.proofs.ReadFacts.{text_is}
use Rattle.gx_class_ltree.proofs.read.text_from.Goals as goal

pub returns : goal.returns
returns c =
    text_is c.args.bytes.now c.split_at.result.1.now c.in-Some.text.now c.in-Some-flag_from.rest.now c.in-Some.length c.in-Some-flag_from.cut c.in-Some.ensures.found c.split_at.ensures.back c.in-Some-flag_from.ensures
