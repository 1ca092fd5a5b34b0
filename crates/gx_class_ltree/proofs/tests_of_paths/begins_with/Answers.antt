-- Both tell whether the path begins with the labels.
use Rattle.std.proofs.lemmas.Bool.Decides.{same_from_decides}
use Rattle.gx_ltree.specs.Operators.{begins_with}
use Rattle.gx_ltree.specs.declared.operators.LtreeOp.TheVariants.{Below}
use Rattle.gx_ltree.proofs.OperatorLemmas.{decided}
use Rattle.gx_class_ltree.proofs.tests_of_paths.begins_with.Goals as goal

pub returns : goal.returns
returns c = same_from_decides c.above.result (begins_with c.args.path.now c.args.front.now) c.above.ensures (decided Below c.args.path.now c.args.front.now)
