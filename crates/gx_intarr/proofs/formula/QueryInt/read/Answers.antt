use Rattle.std.proofs.Common.{ℕ, List, Err, subst}
use Rattle.gx_formula.specs.Grammar.{AnswersFormula}
use Rattle.gx_intarr.specs.Formula.{tree_of}
use Rattle.gx_intarr.specs.Numbers.{TakesInt4, IsFarNumber}
use Rattle.gx_intarr.proofs.QueryLemmas.{spelled_int4}
use Rattle.gx_intarr.proofs.formula.QueryInt.read.Goals as goal

pub returns-in-Err-clause-answer : goal.returns-in-Err-clause-answer
returns-in-Err-clause-answer c =
    let P : List ℕ → Type 0 = λ t. AnswersFormula TakesInt4 IsFarNumber t (Err c.in-Err.fault) in
    subst P c.as_bytes.ensures.value c.in-Err.ensures

pub returns-in-Ok-clause-valid : goal.returns-in-Ok-clause-valid
returns-in-Ok-clause-valid c = spelled_int4 c.as_bytes.result.now (tree_of c.in-Ok.formula) c.in-Ok.ensures
