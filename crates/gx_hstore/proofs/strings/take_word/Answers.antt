-- Where no signs, or no sign at all, leave no word.
use Rattle.std.proofs.Common.{◌∙◌, sym, ap, length, arith, false}
use Rattle.gx_hstore.proofs.SignLemmas.{one_run}
use Rattle.gx_hstore.proofs.PairLemmas.{no_length}
use Rattle.gx_hstore.proofs.strings.take_word.Goals as goal

pub returns-in_default : goal.returns-in_default
returns-in_default c = λ bytes rest t.
    let none = rw c.in_default.is at c.in_ok-bytes.ensures in
    none bytes rest t.1

pub returns-then-is_empty : goal.returns-then-is_empty
returns-then-is_empty c = λ bytes rest t.
    let taken = rw c.in-Some.is at c.in_ok-bytes.ensures in
    let same = (one_run false c.args.text.now c.in-Some.bytes bytes c.in-Some.rest.now rest taken t.1).0 in
    let some = t.0 in
    omega (arith, some, ap length (sym same ∙ no_length c.in-Some.bytes (sym c.if-is_empty.true ∙ c.is_empty.ensures)))
