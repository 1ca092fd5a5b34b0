-- A number that was refused lies outside.
use Rattle.std.proofs.Common.{ℤ, w64, to_z, of_z, ap}
use Rattle.gx_intarr.proofs.DigitLemmas.{is_far}
use Rattle.gx_intarr.proofs.number.int4_of.Goals as goal

pub returns-in-Err : goal.returns-in-Err
returns-in-Err c =
    is_far c.args.raw.now c.in-Err.field-0 (to_z w64 (of_z w64 c.from.result)) (to_z w64 (of_z w64 c.from-2.result)) (ap (λ (x : ℤ). to_z w64 (of_z w64 x)) c.from.ensures) (ap (λ (x : ℤ). to_z w64 (of_z w64 x)) c.from-2.ensures) c.requires c.in-Err.ensures
