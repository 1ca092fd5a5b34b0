use Rattle.gx_slot.proofs.TableFacts as facts
use Rattle.gx_slot.proofs.checking.item_begins.Goals as goal

pub returns-then-len-ne0-clause-none : goal.returns-then-len-ne0-clause-none
returns-then-len-ne0-clause-none c =
    facts.no_entry_empty c.args.page.now c.args.at c.args.end c.field_at-place.result c.field_at-len.result c.requires.len c.requires.end c.field_at-place.ensures.field c.field_at-len.ensures.field
    c.field_at-place.ensures.bytes c.field_at-len.ensures.bytes c.field_at-place.ensures.small c.field_at-len.ensures.small c.if-place-eq0.true c.if-len-ne0.true

pub returns-then-place-eq0-clause-some : goal.returns-then-place-eq0-clause-some
returns-then-place-eq0-clause-some c =
    facts.entry_empty c.args.page.now c.args.at c.args.end c.field_at-place.result c.field_at-len.result c.requires.len c.requires.end c.field_at-place.ensures.field c.field_at-len.ensures.field
    c.field_at-place.ensures.bytes c.field_at-len.ensures.bytes c.field_at-place.ensures.small c.field_at-len.ensures.small c.if-place-eq0.true c.if-len-ne0.false

pub returns-then-place-len-clause-none : goal.returns-then-place-len-clause-none
returns-then-place-len-clause-none c =
    facts.no_entry_full c.args.page.now c.args.at c.args.end c.field_at-place.result c.field_at-len.result c.requires.len c.requires.end c.field_at-place.ensures.field c.field_at-len.ensures.field
    c.field_at-place.ensures.bytes c.field_at-len.ensures.bytes c.field_at-place.ensures.small c.field_at-len.ensures.small c.if-place-eq0.false c.if-place-len.true

pub returns-clause-some : goal.returns-clause-some
returns-clause-some c =
    facts.entry_full c.args.page.now c.args.at c.args.end c.field_at-place.result c.field_at-len.result c.requires.len c.requires.end c.field_at-place.ensures.field c.field_at-len.ensures.field
    c.field_at-place.ensures.bytes c.field_at-len.ensures.bytes c.field_at-place.ensures.small c.field_at-len.ensures.small c.if-place-eq0.false c.if-place-len.false
