use Rattle.std.proofs.Common.{◌≡◌, ◌<◌, ◌+◌, ◌-◌, ◌*◌, ℕ, List, length, get_or, take, arith, ◌∙◌}
use Rattle.std.specs.Str.Parse.{digits_value, AllDigits}
use Rattle.std.proofs.lemmas.Str.Parse.{digit_at, digits_value-take-le}
use Rattle.std.proofs.lemmas.Int.Digits.{digits_value_more}
use Rattle.std.proofs.lemmas.Bool.Decides.{nat_tests}
use Rattle.gx_bytes.proofs.wholes.numeral_value.Goals as goal

-- the value with one digit more
one_more : (digits : List ℕ) (i : ℕ) (size : ℕ) → AllDigits 10 digits → i < length digits → size ≡ digits_value 10 (take i digits)
    → size * 10 + (get_or digits i 0 - 48) ≡ digits_value 10 (take (i + 1) digits)
one_more digits i size all inside e =
    let range = digit_at digits i all inside in
    let more = digits_value_more 10 digits i inside in
    grind (arith, nat_tests)

pub with_digit-requires : goal.with_digit-requires
with_digit-requires c = digit_at c.args.digits.now c.loop-digit.digit-index c.requires.1 c.loop-digit-test.true

pub returns-in_default : goal.returns-in_default
returns-in_default c =
    let more = one_more c.args.digits.now c.loop-digit.digit-index c.loop-digit.size c.requires.1 c.loop-digit-test.true c.loop-digit.invariant in
    let front = digits_value-take-le 10 c.args.digits.now (c.loop-digit.digit-index + 1) (omega arith) in
    omega (arith, c.in_default.ensures)

pub loop-digit-preserved : goal.loop-digit-preserved
loop-digit-preserved c =
    c.in-Some.ensures.1
    ∙ one_more c.args.digits.now c.loop-digit.digit-index c.loop-digit.size c.requires.1 c.loop-digit-test.true c.loop-digit.invariant
