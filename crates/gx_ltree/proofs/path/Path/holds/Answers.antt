use Rattle.std.proofs.Common.{◌∙◌, ap}
use Rattle.std.specs.Ordering.{is_eq}
use Rattle.gx_ltree.proofs.OperatorLemmas.{equal_holds}
use Rattle.gx_ltree.proofs.path.Path.holds.Goals as goal

pub returns-in-Equal : goal.returns-in-Equal
returns-in-Equal c = equal_holds c.args.op c.args.self.now c.args.operand.now c.is_eq.result c.in-Equal.is (c.is_eq.ensures ∙ ap is_eq c.compare-in-Equal.ensures)
