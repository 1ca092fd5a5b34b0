use Rattle.std.proofs.Common.{◌≡◌, ◌≤◌, ◌∙◌, [], refl}
use Rattle.std.proofs.lemmas.Result.{IfOk-weaker}
use Rattle.gx_tree.proofs.create.create_tree.Goals as goal

pub returns-clause-made : goal.returns-clause-made
returns-clause-made g c = IfOk-weaker c.create_leaf.result _ _ (λ root made tells free list. made tells c.args.kind [] free c.new-slots.ensures list) c.create_leaf.ensures.made
