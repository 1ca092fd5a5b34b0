-- What the reader of paths has read.
use Rattle.std.proofs.Common.{◌≡◌, ◌≢◌, ℕ, ◌≤◌, List, [], ◌∷◌, ◌++◌, length, sym, ap, ◌∙◌, arith, length-append}
use Rattle.std.specs.List.{AllByRecursion}
use Rattle.gx_ltree.specs.Label.{IsLabel, TakesLabel}
use Rattle.gx_ltree.proofs.TextLemmas.{before, before-append}
use Rattle.gx_ltree.proofs.LabelLemmas.{AllByRecursion-append}

-- the labels read so far, each with a dot behind it, and the rest
pub record HasRead (text : List ℕ) (done : List (List ℕ)) (rest : List ℕ) : Type 0 where
  pub parts : text ≡ before done rest
  pub each : AllByRecursion IsLabel done
  pub most : length done ≤ 65535

-- one label more, and the dot behind it
pub reads_more : (text : List ℕ) (done : List (List ℕ)) (rest label tail more : List ℕ) → HasRead text done rest → TakesLabel rest label tail → length done ≢ 65535 → tail ≡ 46 ∷ more → HasRead text (done ++ label ∷ []) more
reads_more text done rest label tail more h takes few dot = record {
  parts = h.parts ∙ ap (before done) (takes.parts ∙ ap (λ (t : List ℕ). label ++ t) dot) ∙ sym (before-append done label more);
  each = AllByRecursion-append IsLabel done (label ∷ []) h.each (takes.is_label, tt);
  most = omega (arith, h.most, length-append done (label ∷ []));
}
