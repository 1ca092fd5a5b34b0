use Rattle.std.proofs.Common.{◌≡◌, ◌++◌, ℕ, List, ap, ◌∙◌}
use Rattle.std.specs.Int.{w128, to_be_bytes}
use Rattle.uuid.specs.Text.{hyphenated_text, lower}
use Rattle.gx_scalar.proofs.uuids.print_uuid.Goals as goal

shown : (n : ℕ) (made form text bytes : List ℕ) → made ≡ to_be_bytes w128 n → form ≡ made → text ≡ hyphenated_text lower form → bytes ≡ text → bytes ≡ hyphenated_text lower (to_be_bytes w128 n)
shown n made form text bytes a b c d = d ∙ c ∙ ap (hyphenated_text lower) (b ∙ a)

pub returns : goal.returns
returns c =
    c.in_ok-extend_from_slice.ensures.ok
    ∙ ap (λ (t : List ℕ). c.args.to.now ++ t) (shown c.args.number c.from_u128.result c.hyphenated.result c.encode_lower-text.result.now c.as_bytes.result.now c.from_u128.ensures c.hyphenated.ensures c.encode_lower-text.ensures.text c.as_bytes.ensures.value)
