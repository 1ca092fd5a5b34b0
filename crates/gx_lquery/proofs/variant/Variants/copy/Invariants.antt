use Rattle.std.proofs.Common.{◌≡◌, take}
use Rattle.gx_lquery.proofs.variant.Variants.copy.Given as goal

abbrev pub invariant-loop-variant : goal.invariant-loop-variant
invariant-loop-variant l = l.copy ≡ take l.variant-index l.variant-items
