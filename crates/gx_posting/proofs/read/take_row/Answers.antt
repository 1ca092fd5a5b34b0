use Rattle.std.proofs.Common.{inl, inr, arith}
use Rattle.gx_posting.proofs.PostingFacts.{no_page, no_slot, no_more}
use Rattle.gx_posting.proofs.read.take_row.Goals as goal

pub returns-in_default-take_number : goal.returns-in_default-take_number
returns-in_default-take_number c = no_page _ _ c.args.before c.in-Some.more c.in-Some.ensures.1 c.in_default-take_number.ensures

pub returns-in_default-take_number-2 : goal.returns-in_default-take_number-2
returns-in_default-take_number-2 c =
    no_slot _ _ _ c.args.before c.in-Some.more c.in-Some-take_number.page c.in-Some.ensures.1 c.in-Some-take_number.ensures.1 c.in_default-take_number-2.ensures

pub returns-then-slot-from : goal.returns-then-slot-from
returns-then-slot-from c =
    no_more _ _ _ _ c.args.before c.in-Some.more c.in-Some-take_number.page c.in-Some-take_number-2.slot c.in-Some.ensures.1 c.in-Some-take_number.ensures.1 c.in-Some-take_number-2.ensures.1
    (inl (omega (arith, c.if-slot-from.true, c.from.ensures)))

pub returns-in_default-checked_add : goal.returns-in_default-checked_add
returns-in_default-checked_add c =
    no_more _ _ _ _ c.args.before c.in-Some.more c.in-Some-take_number.page c.in-Some-take_number-2.slot c.in-Some.ensures.1 c.in-Some-take_number.ensures.1 c.in-Some-take_number-2.ensures.1
    (inr (omega (arith, c.in_default-checked_add.ensures)))
