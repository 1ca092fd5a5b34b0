use Rattle.std.proofs.lemmas.Result.{IfOk-weaker}
use Rattle.gx_json.specs.Tree.{data_of}
use Rattle.gx_index.proofs.Questions.{asks_same, paths_test}
use Rattle.gx_index.proofs.item_classes.JsonbPathClassItemClass.query_for.Goals as goal

pub returns : goal.returns
returns c =
    IfOk-weaker c.json_path_query.result _ _ (λ made is. asks_same _ _ _ made (λ query known. record {
      valid = λ question. known.valid (c.questions_are_valid.ensures.right _ _ question.kind _ _ question.asked);
      test = λ v. paths_test _ _ query known (data_of v);
    }) is) c.json_path_query.ensures
