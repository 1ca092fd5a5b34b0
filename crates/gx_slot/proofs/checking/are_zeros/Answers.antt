use Rattle.std.proofs.Common.{◌≡◌, ◌∙◌, length, take, replicate, sym}
use Rattle.std.proofs.lemmas.List.{take-replicate}
use Rattle.gx_slot.proofs.checking.are_zeros.Goals as goal

pub returns : goal.returns
returns c =
    let same : take (length c.args.part.now) (replicate 8192 0) ≡ replicate (length c.args.part.now) 0 = take-replicate (length c.args.part.now) 8192 0 c.requires in
    (λ yes. c.are_equal.ensures.0 yes ∙ same, λ zeros. c.are_equal.ensures.1 (zeros ∙ sym same))
