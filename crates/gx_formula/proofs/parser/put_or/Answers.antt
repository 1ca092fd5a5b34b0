use Rattle.gx_formula.proofs.StepLemmas.{or_deep}
use Rattle.gx_formula.proofs.parser.put_or.Goals as goal

pub returns-then-operators-ge-MOST_OPERATORS : goal.returns-then-operators-ge-MOST_OPERATORS
returns-then-operators-ge-MOST_OPERATORS g c = or_deep g.F.Formula.tree c.args.parser c.in-Some.operand c.in-Some.is c.if-operators-ge-MOST_OPERATORS.true
