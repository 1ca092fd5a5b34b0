use Rattle.std.proofs.Common.{◌≡◌, ℕ, zero, suc, ◌<◌, Bool, false, nat_eq, sym, ◌∙◌, arith}
use Rattle.std.proofs.lemmas.Str.Parse.{numerals_by_value, tells_by_index}
use Rattle.gx_bytes.proofs.wholes.is_numeral.Goals as goal

positive : (n : ℕ) (b : Bool) → b ≡ nat_eq n 0 → b ≡ false → 0 < n
positive zero b e f = cc (sym e ∙ f)
positive (suc n) b e f = omega arith

pub returns-then-not-is_empty : goal.returns-then-not-is_empty
returns-then-not-is_empty c =
    let digits = c.args.digits.now in
    let model = numerals_by_value _ tells_by_index in (
      λ is. (positive _ _ c.is_empty.ensures c.if-not-is_empty.true, model.to digits (c.are_digits.ensures.0 is)),
      λ numeral. c.are_digits.ensures.1 (model.from digits numeral.1),
    )
