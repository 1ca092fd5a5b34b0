-- The texts of queries.
use Rattle.std.specs.Prelude.{ℕ, List, Result}
use Rattle.gx_bytes.specs.declared.error.ValueError.{ValueError}
use Rattle.gx_formula.specs.Grammar as formulas
use Rattle.gx_formula.specs.Grammar.{SpellsFormula}
use Rattle.gx_intarr.specs.declared.formula.QueryInt.{QueryInt}
use Rattle.gx_intarr.specs.Numbers.{TakesInt4, IsFarNumber}
use Rattle.gx_intarr.specs.Formula.{tree_of}

-- the text is made of tokens that spell the query's formula, at most 64 parentheses and `!` standing open, with at most 1,024 `&` and `|`
abbrev pub SpellsQuery : List ℕ → QueryInt → Type 0
SpellsQuery text query = SpellsFormula TakesInt4 text (tree_of query.formula)

-- what each answer of the reader says of the text
abbrev pub AnswersQuery : List ℕ → Result QueryInt ValueError → Type 0
AnswersQuery text r = formulas.AnswersQuery (λ query. tree_of query.formula) TakesInt4 IsFarNumber text r
