use Rattle.std.proofs.Common.{◌≡◌, ◌<◌, ◌^◌, ℕ, ℤ, List, length, get_or, refl, sym, ap, ◌∙◌, arith, rules, to_z, of_z, to_z-of_z, FitsSigned, w64}
use Rattle.std.specs.Int.{from_le_bytes, to_le_bytes}
use Rattle.std.proofs.lemmas.Int.{of_z-to_z, ints}
use Rattle.std.proofs.lemmas.Nat.{le_bytes_8}
use Rattle.gx_bytes.specs.Wholes.{IsWithin}
use Rattle.gx_scalar.specs.Values.{least_int8, greatest_int8}
use Rattle.gx_scalar.proofs.encoding.int8_from.Goals as goal

-- eight bytes are those of the number that they write
eight : (bytes : List ℕ) (r : ℤ) → length bytes ≡ 8 → ((i : ℕ) → get_or bytes i 0 < 256) → FitsSigned w64 r → r ≡ to_z w64 (from_le_bytes w64 bytes)
    → IsWithin least_int8 greatest_int8 r × (bytes ≡ to_le_bytes w64 (of_z w64 r))
eight bytes r size small fits e =
    let fit : from_le_bytes w64 bytes < 2 ^ 64 = omega (arith, small 0, small 1, small 2, small 3, small 4, small 5, small 6, small 7) in
    let back : of_z w64 r ≡ from_le_bytes w64 bytes = ap (of_z w64) e ∙ of_z-to_z w64 (from_le_bytes w64 bytes) fit in
    ((omega (arith, ints), omega (arith, ints)), sym (le_bytes_8 bytes (of_z w64 r) size small back))

pub returns-in-len8 : goal.returns-in-len8
returns-in-len8 c =
    let fits : FitsSigned w64 c.from_le_bytes.result = search rules in
    let read = eight c.args.bytes.now c.from_le_bytes.result (omega arith) (λ i. let f = c.type_inv.bytes i in omega (arith, f)) fits c.from_le_bytes.ensures in
    simp to_z-of_z ((refl, read.0), read.1)
