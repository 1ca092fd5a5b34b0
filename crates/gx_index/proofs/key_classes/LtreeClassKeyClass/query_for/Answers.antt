use Rattle.std.proofs.lemmas.Result.{IfOk-weaker}
use Rattle.gx_opr.specs.Operands.{right_of}
use Rattle.gx_index.proofs.Questions.{asks_same, path_test}
use Rattle.gx_index.proofs.key_classes.LtreeClassKeyClass.query_for.Goals as goal

pub returns : goal.returns
returns g c =
    IfOk-weaker c.path_query.result _ _ (λ made is. asks_same _ _ _ made (λ query known. record {
      valid = λ question. tt;
      test = path_test _ c.args.op (right_of c.args.operand.now.part) query known;
    }) is) c.path_query.ensures
