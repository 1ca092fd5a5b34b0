use Rattle.std.proofs.lemmas.Result.{IfOk-weaker}
use Rattle.gx_index.proofs.Questions.{asks_same, array_test}
use Rattle.gx_index.proofs.item_classes.ArrayClassItemClass.query_for.Goals as goal

pub returns : goal.returns
returns c =
    IfOk-weaker c.array_query.result _ _ (λ made is. asks_same _ _ _ made (λ query known. record {
      valid = λ question. known.valid (c.questions_are_valid.ensures.right _ _ question.kind _ _ question.asked);
      test = array_test _ _ query known;
    }) is) c.array_query.ensures
