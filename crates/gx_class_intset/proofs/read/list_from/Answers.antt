-- The count is that of the intervals.
use Rattle.std.proofs.Common.{◌≡◌, ◌∙◌, sym, length, arith, rules}
use Rattle.gx_class_intset.specs.Spellings.{pieces}
use Rattle.gx_class_intset.proofs.ReadFacts.{other_count, listed_is}
use Rattle.gx_class_intset.proofs.read.list_from.Goals as goal

pub returns-then-len-count : goal.returns-then-len-count
returns-then-len-count c =
    let told = rw c.in-Some-2.is at c.in_ok-list.ensures in
    let size : c.len.result ≡ length c.in-Some-2.list.items = search rules in
    λ is p few e.
    let again = c.in-Some.ensures.again (length is) (pieces is) (omega (arith, few)) e in
    c.if-len-count.true (size ∙ other_count c.args.bytes.now c.split_at.result.1.now c.in-Some.count c.in-Some.length c.in-Some-2.list.items is told.0 p e again.1 c.split_at.ensures.back told.1 again.0)

pub returns : goal.returns
returns c =
    let told = rw c.in-Some-2.is at c.in_ok-list.ensures in
    let size : c.len.result ≡ length c.in-Some-2.list.items = search rules in
    (told.0, listed_is c.args.bytes.now c.split_at.result.1.now c.in-Some.count c.in-Some.length c.in-Some-2.list.items c.in-Some.ensures.found c.split_at.ensures.back told.1 (sym size ∙ c.if-len-count.false))
