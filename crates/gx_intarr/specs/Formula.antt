-- Formulas of numbers, and when they are true of an array (PostgreSQL 16, F.20.1).
use Rattle.std.specs.Prelude.{ℤ, Bool, List, Contains}
use Rattle.std.specs.List.{list_any}
use Rattle.std.specs.Ordering.{int_cmp, is_eq}
use Rattle.gx_formula.specs.Formula.{Tree, Word, Not, And, Or, IsTrueWhere, is_true_where}
use Rattle.gx_intarr.specs.Arrays.{IsInt4}
use Rattle.gx_intarr.specs.declared.formula.IntFormula.{IntFormula}
use Rattle.gx_intarr.specs.declared.formula.IntFormula.TheVariants as formula

-- the formula without its boxes
abbrev pub tree_of : IntFormula → Tree ℤ
tree_of (formula.Number n) = Word n
tree_of (formula.Not' p f) = Not (tree_of f)
tree_of (formula.And' p f q g) = And (tree_of f) (tree_of g)
tree_of (formula.Or' p f q g) = Or (tree_of f) (tree_of g)

-- the numbers of the formula are int4
abbrev pub HasInt4 : Tree ℤ → Type 0
HasInt4 (Word n) = IsInt4 n
HasInt4 (Not t) = HasInt4 t
HasInt4 (And t u) = HasInt4 t × HasInt4 u
HasInt4 (Or t u) = HasInt4 t × HasInt4 u

-- a number is true where it is an element
abbrev pub IsTrueOf : Tree ℤ → List ℤ → Type 0
IsTrueOf tree items = IsTrueWhere (λ n. Contains items n) tree

-- the tests of the same
abbrev pub has : List ℤ → ℤ → Bool
has items n = list_any (λ item. is_eq (int_cmp item n)) items

abbrev pub is_true_of : Tree ℤ → List ℤ → Bool
is_true_of tree items = is_true_where (has items) tree
