-- There is room for all labels where as many as there are stand in front.
use Rattle.std.proofs.Common.{◌∙◌, ℕ, List, nat_eq, length, ap, ap₂}
use Rattle.gx_class_ltree.specs.Keys.{front}
use Rattle.gx_class_ltree.proofs.PartFacts.{front_whole}
use Rattle.gx_class_ltree.proofs.parts.is_short.Goals as goal

pub returns : goal.returns
returns c =
    ap₂ nat_eq (c.front_count.ensures ∙ ap (λ (path : List (List ℕ)). length (front 600 path)) c.labels.ensures) c.count.ensures
    ∙ front_whole 600 c.args.path.now
