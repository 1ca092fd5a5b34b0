use Rattle.std.proofs.Common.{IsTrue, ◌↔◌, ap, ◌∙◌, sym, subst}
use Rattle.serde_json.specs.Data.{Data, array, object}
use Rattle.gx_json.specs.Operators.{HasKey}
use Rattle.gx_json.specs.Tree.{items_data, members_data}
use Rattle.gx_json.proofs.TreeLemmas.{data_at_List, data_at_Object}
use Rattle.gx_json.proofs.operators.is_key.Goals as goal

pub returns-in-List : goal.returns-in-List
returns-in-List c =
    let tree = data_at_List c.args.value.now c.in-List.list c.in-List.is ∙ ap (λ js. array (items_data js)) (sym c.deref.ensures.value) in
    let P : Data → Type 0 = λ d. IsTrue c.has_text.result ↔ HasKey c.args.key.now d in
    subst P (sym tree) c.has_text.ensures

pub returns-in-Object : goal.returns-in-Object
returns-in-Object c =
    let tree = data_at_Object c.args.value.now c.in-Object.pairs c.in-Object.is ∙ ap (λ ps. object (members_data ps)) (sym c.deref-in-Object.ensures.value) in
    let P : Data → Type 0 = λ d. IsTrue c.has_pair.result ↔ HasKey c.args.key.now d in
    subst P (sym tree) c.has_pair.ensures
