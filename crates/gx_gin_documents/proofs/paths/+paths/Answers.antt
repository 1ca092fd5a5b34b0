use Rattle.std.proofs.Common.{◌++◌, ap, ◌∙◌, sym}
use Rattle.serde_json.specs.Data.{Data, object}
use Rattle.gx_json.specs.Tree.{members_data}
use Rattle.gx_json.proofs.TreeLemmas.{data_at_Object}
use Rattle.gx_gin_documents.specs.Steps.{hash_items}
use Rattle.gx_gin_documents.proofs.paths.+paths.Goals as goal

pub push_paths-returns-in_ok-push_members-in-Object : goal.push_paths-returns-in_ok-push_members-in-Object
push_paths-returns-in_ok-push_members-in-Object t c =
    let tree = data_at_Object c.args.value.now c.in-Object.pairs c.in-Object.is in
    c.in_ok-push_members-in-Object.ensures
    ∙ ap (λ (d : Data). c.args.to.now ++ hash_items c.args.above d) (ap (λ ps. object (members_data ps)) c.deref-in-Object.ensures.value ∙ sym tree)
