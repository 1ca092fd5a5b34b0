-- Keys of halves that are handed on.
use Rattle.std.proofs.Common.{sym, subst}
use Rattle.gx_gist_tree.specs.declared.change.Change.{Change}
use Rattle.gx_gist_tree.specs.declared.change.Change.TheVariants.{Within, Split}
use Rattle.gx_gist_tree.specs.declared.change.Arranged.{Arranged}
use Rattle.gx_gist_tree.specs.declared.change.Arranged.TheVariants.{Same, Here, Halves}
use Rattle.gx_gist_tree.specs.Insertion.{AreValidKeys, HasKeysOf, HasValidKeys}

pub valid_keys : {K : Type 0} (valid : K → Type 0) (a : Arranged K) (change : Change K) → HasKeysOf a change → AreValidKeys valid a → HasValidKeys valid change
valid_keys valid Same Within keys are = tt
valid_keys valid Here Within keys are = tt
valid_keys valid (Halves l other r) Within keys are = tt
valid_keys valid Same (Split x page y) keys are = absurd keys
valid_keys valid Here (Split x page y) keys are = absurd keys
valid_keys valid (Halves l other r) (Split x page y) keys are = (subst valid (sym keys.0) are.0, subst valid (sym keys.1) are.1)
