-- The first text that is refused, and one number more.
use Rattle.std.proofs.Common.{◌≡◌, ◌++◌, ◌∷◌, [], List, ℕ, ℤ, w64, to_z, of_z, ap, subst, Ok, Err, rules}
use Rattle.std.proofs.lemmas.Result.{err_from_is_err_and}
use Rattle.gx_intarr.specs.Arrays.{AnswersNumbers}
use Rattle.gx_intarr.proofs.NumberLemmas.{whole_bounds, fault_at, one_more}
use Rattle.gx_intarr.proofs.text.numbers_of.Goals as goal

pub returns-in_err-number : goal.returns-in_err-number
returns-in_err-number c =
    let p = err_from_is_err_and c.from_residual.result c.from_residual.ensures.1 in
    let told = whole_bounds c.as_slice.result.now (to_z w64 (of_z w64 c.from.result)) (to_z w64 (of_z w64 c.from-in-loop-text.result)) (Err c.in_err-number.field-0.0) (ap (λ (x : ℤ). to_z w64 (of_z w64 x)) c.from.ensures) (ap (λ (x : ℤ). to_z w64 (of_z w64 x)) c.from-in-loop-text.ensures) c.in_err-number.ensures in
    let P : List (List ℕ) → Type 0 = λ t. AnswersNumbers t (Err c.in_err-number.field-0.0) in
    rw (p.1, p.2) (subst P c.as_slice-text-items.ensures (fault_at c.as_slice-text-items.result.now c.loop-text.text-index c.text-item.result c.as_slice.result.now c.loop-text.numbers.items c.in_err-number.field-0.0 c.loop-text-test.true c.text-item.is c.as_slice.ensures c.loop-text.invariant told))

pub loop-text-preserved : goal.loop-text-preserved
loop-text-preserved c =
    let told = whole_bounds c.as_slice.result.now (to_z w64 (of_z w64 c.from.result)) (to_z w64 (of_z w64 c.from-in-loop-text.result)) (Ok c.in_ok-number.number) (ap (λ (x : ℤ). to_z w64 (of_z w64 x)) c.from.ensures) (ap (λ (x : ℤ). to_z w64 (of_z w64 x)) c.from-in-loop-text.ensures) c.in_ok-number.ensures in
    let pushed : c.push.new.self.items ≡ c.loop-text.numbers.items ++ c.in_ok-number.number ∷ [] = search rules in
    one_more c.as_slice-text-items.result.now c.loop-text.text-index c.text-item.result c.as_slice.result.now c.loop-text.numbers.items c.push.new.self.items c.in_ok-number.number c.loop-text-test.true c.text-item.is c.as_slice.ensures c.loop-text.invariant told.0 told.1 pushed
