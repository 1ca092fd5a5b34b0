use Rattle.std.proofs.Common.{◌++◌, ap, ◌∙◌, sym}
use Rattle.serde_json.specs.Data.{Data, object}
use Rattle.serde_json.specs.Written.{compact_text}
use Rattle.gx_json.specs.Tree.{members_data}
use Rattle.gx_json.proofs.TreeLemmas.{data_at_Object}
use Rattle.gx_json.proofs.encoding.+encode.Goals as goal

pub encode_value-returns-in_ok-encode_pairs-in-Object : goal.encode_value-returns-in_ok-encode_pairs-in-Object
encode_value-returns-in_ok-encode_pairs-in-Object t c =
    let tree = data_at_Object c.args.value.now c.in-Object.pairs c.in-Object.is in
    c.in_ok-encode_pairs-in-Object.ensures
    ∙ ap (λ (d : Data). c.args.to.now ++ compact_text d) (ap (λ ps. object (members_data ps)) c.deref-in-Object.ensures.value ∙ sym tree)
