use Rattle.std.proofs.Common.{ℕ, List, Err, subst}
use Rattle.gx_formula.specs.Grammar.{AnswersFormula}
use Rattle.gx_ltxtquery.specs.Words.{TakesWord}
use Rattle.gx_ltxtquery.proofs.formula.Ltxtquery.read.Goals as goal

pub returns-in-Err : goal.returns-in-Err
returns-in-Err c =
    let P : List ℕ → Type 0 = λ t. AnswersFormula TakesWord (λ _. ⊥) t (Err c.in-Err.fault) in
    subst P c.as_bytes.ensures.value c.in-Err.ensures
