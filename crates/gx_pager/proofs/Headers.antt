-- The numbers of a header.
use Rattle.std.proofs.Common.{◌≡◌, ℕ, ◌^◌, ◌<◌, List, take, drop, ◌∙◌, ap}
use Rattle.gx_bytes.specs.Fields.{le32, le64, of32, of64, of32-le32, of64-le64}
use Rattle.gx_pager.specs.Headers.{wrong_number, wrong_field}

-- the fields are these numbers
pub wrong_is : (header : List ℕ) (magic format count : ℕ) → magic < 2 ^ 32 → format < 2 ^ 32 → count < 2 ^ 64 → take 4 (drop 0 header) ≡ le32 magic → take 4 (drop 4 header) ≡ le32 format
    → take 8 (drop 8 header) ≡ le64 count → wrong_field header ≡ wrong_number magic format count
wrong_is header magic format count small fits most first second third =
    ap (λ (n : ℕ). wrong_number n (of32 (take 4 (drop 4 header))) (of64 (take 8 (drop 8 header)))) (ap of32 first ∙ of32-le32 magic small)
    ∙ ap (λ (n : ℕ). wrong_number magic n (of64 (take 8 (drop 8 header)))) (ap of32 second ∙ of32-le32 format fits)
    ∙ ap (λ (n : ℕ). wrong_number magic format n) (ap of64 third ∙ of64-le64 count most)
