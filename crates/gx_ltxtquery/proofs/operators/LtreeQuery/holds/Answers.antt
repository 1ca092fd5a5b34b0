use Rattle.std.proofs.Common.{IsTrue, ◌↔◌, IfOk, sym, subst}
use Rattle.gx_ltxtquery.specs.declared.operators.LtreeQuery.{LtreeQuery}
use Rattle.gx_ltxtquery.specs.Operators.{Holds}
use Rattle.gx_ltxtquery.proofs.operators.LtreeQuery.holds.Goals as goal

pub returns-in-Lquery : goal.returns-in-Lquery
returns-in-Lquery c =
    let P : LtreeQuery → Type 0 = λ q. IfOk c.matches.result (λ answer. IsTrue answer ↔ Holds q c.args.path.now) in
    subst P (sym c.in-Lquery.is) c.matches.ensures

pub returns-in-Lqueries : goal.returns-in-Lqueries
returns-in-Lqueries c =
    let P : LtreeQuery → Type 0 = λ q. IfOk c.matches-in-Lqueries.result (λ answer. IsTrue answer ↔ Holds q c.args.path.now) in
    subst P (sym c.in-Lqueries.is) c.matches-in-Lqueries.ensures
