-- The texts of formulas of words.
use Rattle.std.specs.Prelude.{ℕ, List, Result}
use Rattle.gx_bytes.specs.declared.error.ValueError.{ValueError}
use Rattle.gx_formula.specs.Grammar.{SpellsFormula, AnswersQuery}
use Rattle.gx_ltxtquery.specs.declared.formula.Ltxtquery.{Ltxtquery}
use Rattle.gx_ltxtquery.specs.Words.{TakesWord}
use Rattle.gx_ltxtquery.specs.Formula.{tree_of}

-- the text is made of tokens that spell the formula, at most 64 parentheses and `!` standing open, with at most 1,024 `&` and `|`
abbrev pub SpellsLtxtquery : List ℕ → Ltxtquery → Type 0
SpellsLtxtquery text query = SpellsFormula TakesWord text (tree_of query.formula)

-- what each answer of the reader says of the text
abbrev pub AnswersLtxtquery : List ℕ → Result Ltxtquery ValueError → Type 0
AnswersLtxtquery text r = AnswersQuery (λ query. tree_of query.formula) TakesWord (λ _. ⊥) text r
