use Rattle.std.proofs.Common.{◌≡◌, List, ℕ, ◌++◌, take, drop, sym, ◌∙◌, ap, refl}
use Rattle.gx_bytes.specs.Varints.{field_bytes}
use Rattle.gx_bytes.proofs.Spellings.{field_only}
use Rattle.gx_catalog.proofs.Fronts.{take_front}
use Rattle.gx_catalog.proofs.reading.take_field.Goals as goal

pub returns : goal.returns
returns c =
    sym (take_front c.in_ok-part.len c.args.bytes.now)
    ∙ ap (λ (l : List ℕ). l ++ drop c.in_ok-part.len c.args.bytes.now) (field_only (take c.in_ok-part.len c.args.bytes.now) c.in_ok-part.part.now c.in_ok-part.ensures.found)
    ∙ ap (λ (l : List ℕ). field_bytes c.in_ok-part.part.now ++ l) (sym c.split_at.ensures.back)
