-- Where no signs, or no quote behind them, leave no string in quotes.
use Rattle.std.proofs.Common.{◌∷◌, true}
use Rattle.gx_hstore.proofs.SignLemmas.{one_run}
use Rattle.gx_hstore.proofs.strings.take_quoted.Goals as goal

pub returns-in_default : goal.returns-in_default
returns-in_default c = λ bytes rest t.
    let none = rw c.in_default.is at c.in_ok-bytes.ensures in
    none bytes (34 ∷ rest) t

pub returns-in_default-behind_byte : goal.returns-in_default-behind_byte
returns-in_default-behind_byte c = λ bytes rest t.
    let taken = rw c.in-Some.is at c.in_ok-bytes.ensures in
    c.in_default-behind_byte.ensures rest (one_run true c.args.inner.now c.in-Some.bytes bytes c.in-Some.after.now (34 ∷ rest) taken t).1
