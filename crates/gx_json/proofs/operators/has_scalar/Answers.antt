use Rattle.std.proofs.Common.{ap, ◌∙◌, sym}
use Rattle.serde_json.specs.Data.{array}
use Rattle.gx_json.specs.Tree.{data_of, items_data}
use Rattle.gx_json.proofs.TreeLemmas.{data_at_List}
use Rattle.gx_json.proofs.OperatorLemmas.{scalar_in}
use Rattle.gx_json.proofs.operators.has_scalar.Goals as goal

pub returns-in-List : goal.returns-in-List
returns-in-List c =
    let tree = data_at_List c.args.value.now c.in-List.list c.in-List.is ∙ ap (λ js. array (items_data js)) (sym c.deref.ensures.value) in
    scalar_in c.has_equal.result (data_of c.args.value.now) (data_of c.args.other.now) (items_data c.deref.result.now) tree c.has_equal.ensures
