use Rattle.std.specs.Prelude.{[], ◌∷◌, Some}
use Rattle.gx_candidates.proofs.Seen.{see}
use Rattle.gx_candidates.proofs.laws.candidates_see.Goals as goal

pub returns : goal.returns
returns c = see (record { decided = c.decided.ensures; valid = λ kind d is. (c.rows_are_valid.ensures (kind ∷ []) (Some d ∷ []) (is, tt)).0 })
