-- One answer to a text, and the numbers of its formula.
use Rattle.std.proofs.Common.{◌≢◌, ℕ, ℤ, List, [], ◌∷◌, ◌++◌, Result, Err}
use Rattle.std.specs.List.{AllByRecursion}
use Rattle.gx_bytes.specs.declared.error.ValueError.{ValueError}
use Rattle.gx_bytes.specs.declared.error.ValueError.TheVariants.{Memory}
use Rattle.gx_formula.specs.declared.sign.Sign.TheVariants as sign
use Rattle.gx_formula.specs.Formula.{Tree}
use Rattle.gx_formula.specs.Grammar.{AreAlike, Part, Spells, SpellsFormula, word, negation, parenthesis, one_operand, conjunction, one_product, disjunction}
use Rattle.gx_formula.specs.Tokens.{Token, Word, Mark, Begins}
use Rattle.gx_formula.proofs.AnswerLemmas.{alike}
use Rattle.gx_intarr.specs.declared.formula.QueryInt.{QueryInt}
use Rattle.gx_intarr.specs.Arrays.{IsInt4}
use Rattle.gx_intarr.specs.Numbers.{TakesInt4, IsFarNumber}
use Rattle.gx_intarr.specs.Formula.{tree_of, HasInt4}
use Rattle.gx_intarr.specs.Queries.{AnswersQuery}
use Rattle.gx_intarr.specs.Laws.{words_are}

pub one_query : (text : List ℕ) (r s : Result QueryInt ValueError) → r ≢ Err Memory → s ≢ Err Memory → AnswersQuery text r → AnswersQuery text s → AreAlike (λ query. tree_of query.formula) r s
one_query = alike ℤ TakesInt4 IsFarNumber words_are QueryInt (λ query. tree_of query.formula)

-- a token that is a number is an int4
abbrev IsInt4Token : Token ℤ → Type 0
IsInt4Token (Word n) = IsInt4 n
IsInt4Token (Mark s) = Unit {0}

tokens_int4 : (text rest : List ℕ) (tokens : List (Token ℤ)) → Begins TakesInt4 text tokens rest → AllByRecursion IsInt4Token tokens
tokens_int4 text rest [] begins = tt
tokens_int4 text rest (Word n ∷ tokens) begins = (begins.1.stands.2.1, tokens_int4 begins.0 rest tokens begins.2)
tokens_int4 text rest (Mark s ∷ tokens) begins = (tt, tokens_int4 begins.0 rest tokens begins.2)

parts_int4 : (x y : List (Token ℤ)) → AllByRecursion IsInt4Token (x ++ y) → AllByRecursion IsInt4Token x × AllByRecursion IsInt4Token y
parts_int4 [] y all = (tt, all)
parts_int4 (t ∷ x) y all =
    let rest = parts_int4 x y all.1 in
    ((all.0, rest.0), rest.1)

tree_int4 : {part : Part} {tokens : List (Token ℤ)} {tree : Tree ℤ} → Spells ℤ part tokens tree → AllByRecursion IsInt4Token tokens → HasInt4 tree
tree_int4 (word n) all = all.0
tree_int4 (negation x t s) all = tree_int4 s all.1
tree_int4 (parenthesis x t s) all = tree_int4 s (parts_int4 x (Mark sign.Close ∷ []) all.1).0
tree_int4 (one_operand x t s) all = tree_int4 s all
tree_int4 (conjunction x y t u s r) all =
    let parts = parts_int4 x (Mark sign.And ∷ y) all in
    (tree_int4 s parts.0, tree_int4 r parts.1.1)
tree_int4 (one_product x t s) all = tree_int4 s all
tree_int4 (disjunction x y t u s r) all =
    let parts = parts_int4 x (Mark sign.Or ∷ y) all in
    (tree_int4 s parts.0, tree_int4 r parts.1.1)

pub spelled_int4 : (text : List ℕ) (tree : Tree ℤ) → SpellsFormula TakesInt4 text tree → HasInt4 tree
spelled_int4 text tree s = tree_int4 s.spelled (tokens_int4 text s.made.0 s.tokens s.made.1)
