-- Both tell whether the query holds of the path.
use Rattle.std.proofs.lemmas.Bool.Decides.{same_from_decides}
use Rattle.std.proofs.lemmas.Result.{IfOk-weaker}
use Rattle.gx_ltxtquery.specs.Operators.{holds}
use Rattle.gx_ltxtquery.proofs.LawLemmas.{operators_decided}
use Rattle.gx_class_ltree.proofs.tests_of_keys.holds_of.Goals as goal

pub returns : goal.returns
returns c =
    IfOk-weaker c.holds.result _ _ (λ b told. same_from_decides b (holds c.args.query.now c.args.path.now) told (operators_decided c.args.query.now c.args.path.now)) c.holds.ensures
