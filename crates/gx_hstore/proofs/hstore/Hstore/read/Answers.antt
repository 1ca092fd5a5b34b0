-- A text that spells a map has text in it; one that spells no pairs spells no map.
use Rattle.gx_hstore.proofs.AnswerLemmas.{valid_map}
use Rattle.gx_hstore.proofs.hstore.Hstore.read.Goals as goal

pub returns-in-Ok-Some-clause-valid : goal.returns-in-Ok-Some-clause-valid
returns-in-Ok-Some-clause-valid c =
    let spelled = rw (c.in-Ok-Some.field-0-is, c.as_bytes.ensures.value) at c.in-Ok-Some.ensures in
    valid_map c.args.text.now c.in-Ok-Some.hstore c.utf8.text spelled

pub returns-in-Ok-None-clause-answer : goal.returns-in-Ok-None-clause-answer
returns-in-Ok-None-clause-answer c = rw (c.in-Ok-None.field-0-is, c.as_bytes.ensures.value) at c.in-Ok-None.ensures
