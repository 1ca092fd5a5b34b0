use Rattle.gx_query.proofs.Narrowing.{front_is, no_front}
use Rattle.gx_query.proofs.narrow.take_field.Goals as goal

pub returns-in_default-field : goal.returns-in_default-field
returns-in_default-field c = no_front c.args.bytes.now c.in-Some-behind_byte.more.now c.in-Some-behind_byte.ensures c.in_default-field.ensures.none

pub returns : goal.returns
returns c =
    front_is c.args.bytes.now c.in-Some-behind_byte.more.now c.in-Some-field._part.now c.split_at-2.result.0.now c.split_at-2.result.1.now c.in-Some-field.length
    c.in-Some-behind_byte.ensures c.in-Some-field.ensures.found c.split_at-2.ensures.front c.split_at-2.ensures.back
