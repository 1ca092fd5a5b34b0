use Rattle.std.proofs.Common.{sym, ◌∙◌}
use Rattle.gx_opr.proofs.ResolvingLemmas.{named_listed}
use Rattle.gx_opr.proofs.resolving.resolve.Goals as goal

pub returns-in-Some-clause-listed : goal.returns-in-Some-clause-listed
returns-in-Some-clause-listed c =
    named_listed c.args.column c.args.op c.args.form c.args.cast c.in-Some.kind (sym c.named.ensures ∙ c.in-Some.is)
