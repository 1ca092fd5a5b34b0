use Rattle.std.proofs.Common.{arith}
use Rattle.gx_formula.proofs.StepLemmas.{open_deep}
use Rattle.gx_formula.proofs.parser.put_open.Goals as goal

pub returns-then-len-ge-MOST_OPEN : goal.returns-then-len-ge-MOST_OPEN
returns-then-len-ge-MOST_OPEN g c = open_deep g.F.Formula.tree c.args.parser c.is_some.result c.is_some.ensures c.if-is_some.false (omega (arith, c.len.ensures, c.if-len-ge-MOST_OPEN.true))
