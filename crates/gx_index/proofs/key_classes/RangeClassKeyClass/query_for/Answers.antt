use Rattle.gx_opr.specs.Operands.{right_of}
use Rattle.gx_index.proofs.Questions.{asks_same, range_test}
use Rattle.gx_index.proofs.key_classes.RangeClassKeyClass.query_for.Goals as goal

pub returns : goal.returns
returns c =
    asks_same _ _ _ c.range_query.result (λ query known. record {
      valid = λ question. known.valid (c.questions_are_valid.ensures.right _ _ question.kind _ _ question.asked);
      test = range_test _ c.args.op (right_of c.args.operand.now.part) query known;
    }) c.range_query.ensures
