use Rattle.std.proofs.Common.{◌≡◌, inl, inr, ℕ, List, min, length, take, sym, ap, ◌∙◌, arith}
use Rattle.std.proofs.lemmas.Bool.{cases_lt}
use Rattle.std.proofs.lemmas.List.{take_all}
use Rattle.gx_class_scalar.specs.Keys.{front}
use Rattle.gx_class_scalar.proofs.tests_of_keys.front_of.Goals as goal

shorter : (bytes : List ℕ) (n : ℕ) → n ≡ min (length bytes) 900 → take n bytes ≡ take 900 bytes
shorter bytes n e =
    elim (cases_lt 900 (length bytes)) [
      | inl long ↦ let same : n ≡ 900 = omega arith in ap (λ k. take k bytes) same
      | inr short ↦ take_all n bytes (omega arith) ∙ sym (take_all 900 bytes short)
    ]

pub returns : goal.returns
unfolding front
returns c = shorter c.args.bytes.now c.min.result c.min.ensures
