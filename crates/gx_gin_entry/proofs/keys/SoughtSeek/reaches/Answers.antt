use Rattle.std.proofs.Common.{◌≡◌, ℕ, List}
use Rattle.gx_gin_entry.proofs.Stops.{reach_some}
use Rattle.gx_gin_entry.proofs.keys.SoughtSeek.reaches.Goals as goal

pub returns-clause-found : goal.returns-clause-found
returns-clause-found c = reach_some c.reaches_key.result _ c.args.key.now c.args.self.now.key.now c.reaches_key.ensures
