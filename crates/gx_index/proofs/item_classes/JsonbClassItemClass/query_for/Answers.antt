use Rattle.std.proofs.lemmas.Result.{IfOk-weaker}
use Rattle.gx_json.specs.Tree.{data_of}
use Rattle.gx_index.proofs.Questions.{asks_same, document_test}
use Rattle.gx_index.proofs.item_classes.JsonbClassItemClass.query_for.Goals as goal

pub returns : goal.returns
returns c =
    IfOk-weaker c.json_query.result _ _ (λ made is. asks_same _ _ _ made (λ query known. record {
      valid = λ question. known.valid (c.questions_are_valid.ensures.right _ _ question.kind _ _ question.asked);
      test = λ v. document_test _ _ query known (data_of v);
    }) is) c.json_query.ensures
