use Rattle.gx_json.proofs.LongestRuns.{has_runs, only_runs}
use Rattle.gx_json.proofs.laws.longest_runs.Goals as goal

pub returns : goal.returns
returns c = record { are = has_runs; only = only_runs }
