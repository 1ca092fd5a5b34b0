-- Where no arrow or no value comes, there is no pair.
use Rattle.gx_hstore.proofs.PairLemmas.{no_arrow, no_value}
use Rattle.gx_hstore.proofs.text.take_pair.Goals as goal

pub returns-in_default-behind_arrow : goal.returns-in_default-behind_arrow
returns-in_default-behind_arrow c =
    let key = rw c.in-Some.is at c.in_ok-key.ensures in
    no_arrow c.args.text.now c.without_blanks.result.now c.in-Some.key.quoted c.in-Some.key.bytes c.in-Some.behind_key.now c.without_blanks-2.result.now c.without_blanks.ensures key c.without_blanks-2.ensures c.in_default-behind_arrow.ensures

pub returns-in_default-2 : goal.returns-in_default-2
returns-in_default-2 c =
    let key = rw c.in-Some.is at c.in_ok-key.ensures in
    let none = rw c.in_default-2.is at c.in_ok-value.ensures in
    no_value c.args.text.now c.without_blanks.result.now c.in-Some.key.quoted c.in-Some.key.bytes c.in-Some.behind_key.now c.without_blanks-2.result.now c.in-Some-behind_arrow.behind_arrow.now c.without_blanks-3.result.now c.without_blanks.ensures key c.without_blanks-2.ensures c.in-Some-behind_arrow.ensures c.without_blanks-3.ensures none
