use Rattle.std.proofs.lemmas.Result.{IfOk-weaker}
use Rattle.gx_opr.specs.Operands.{right_of}
use Rattle.gx_index.proofs.Questions.{scalar_test, scalars_same}
use Rattle.gx_index.proofs.key_classes.ScalarClassKeyClass.query_for.Goals as goal

pub returns : goal.returns
returns c =
    let right = right_of c.args.operand.now.part in
    let kind = c.args.self.now.kind in
    IfOk-weaker c.scalar_query.result _ _ (λ made is. scalars_same kind c.args.op right _ _ made (λ query known. record {
      valid = λ question. known.valid kind (c.questions_are_valid.ensures.scalar kind _ question.kind _ _ question.asked);
      test = scalar_test kind _ c.args.op right query known;
    }) is) c.scalar_query.ensures
