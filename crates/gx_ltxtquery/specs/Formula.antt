-- Formulas of words, and when they are true of a path (PostgreSQL 16, F.23.1).
use Rattle.std.specs.Prelude.{ℕ, Bool, false, List, [], Any}
use Rattle.std.specs.List.{list_any}
use Rattle.gx_lquery.specs.declared.variant.Variant.{Variant}
use Rattle.gx_lquery.specs.Matching.{MatchesVariant}
use Rattle.gx_lquery.specs.Tests.{matches_variant}
use Rattle.gx_formula.specs.Formula.{Tree, Word, Not, And, Or, IsTrueWhere, is_true_where}
use Rattle.gx_ltxtquery.specs.declared.formula.WordFormula.{WordFormula}
use Rattle.gx_ltxtquery.specs.declared.formula.WordFormula.TheVariants as formula

-- the formula without its boxes
abbrev pub tree_of : WordFormula → Tree Variant
tree_of (formula.Word v) = Word v
tree_of (formula.Not' p f) = Not (tree_of f)
tree_of (formula.And' p f q g) = And (tree_of f) (tree_of g)
tree_of (formula.Or' p f q g) = Or (tree_of f) (tree_of g)

-- a word is true where some label matches it
abbrev pub IsTrueOf : Tree Variant → List (List ℕ) → Type 0
IsTrueOf tree path = IsTrueWhere (λ v. Any (λ label. MatchesVariant v label) path) tree

-- the test of the same
abbrev pub is_true_of : Tree Variant → List (List ℕ) → Bool
is_true_of tree path = is_true_where (λ v. list_any (λ label. matches_variant v label) path) tree

abbrev pub no_word : Variant
no_word = record { label = []; prefix = false; caseless = false }
