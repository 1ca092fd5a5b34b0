use Rattle.std.proofs.lemmas.Bool.Decides.{same_from_decides}
use Rattle.gx_inet.specs.Decisions.{holds}
use Rattle.gx_inet.proofs.DecisionLemmas.{holds-Decides}
use Rattle.gx_inet.proofs.operators.inet_holds.Goals as goal

pub returns-clause-decision : goal.returns-clause-decision
returns-clause-decision c = same_from_decides c.holds_of.result (holds c.args.op c.args.a.now c.args.b.now) c.holds_of.ensures (holds-Decides c.args.op c.args.a.now c.args.b.now)
