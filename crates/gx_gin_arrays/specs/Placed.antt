-- Formulas whose numbers have places among the items that they want.
use Rattle.std.specs.Prelude.{◌≡◌, ℕ, List, ℤ}
use Rattle.gx_formula.specs.Formula.{Tree, Word, Not, And, Or}
use Rattle.gx_gin_items.specs.Tests.{place_in}
use Rattle.gx_intarr.specs.Arrays.{IsArray}
use Rattle.gx_gin_arrays.specs.Numbers.{number_item, items, numbers_in}
use Rattle.gx_gin_arrays.specs.declared.placed.PlacedFormula.{PlacedFormula}
use Rattle.gx_gin_arrays.specs.declared.placed.PlacedFormula.TheVariants as formula

-- the formula without places and boxes
abbrev pub tree_of : PlacedFormula → Tree ℤ
tree_of (formula.Number number place) = Word number
tree_of (formula.Not' p f) = Not (tree_of f)
tree_of (formula.And' p f q g) = And (tree_of f) (tree_of g)
tree_of (formula.Or' p f q g) = Or (tree_of f) (tree_of g)

-- each number has the place of its item among these
abbrev pub ArePlaced : List (List ℕ) → PlacedFormula → Type 0
ArePlaced items (formula.Number number place) = place ≡ place_in items (number_item number)
ArePlaced items (formula.Not' p f) = ArePlaced items f
ArePlaced items (formula.And' p f q g) = ArePlaced items f × ArePlaced items g
ArePlaced items (formula.Or' p f q g) = ArePlaced items f × ArePlaced items g

-- each number is an int4, and has the place of its item among those of all the formula's numbers
abbrev pub IsPlaced : PlacedFormula → Type 0
IsPlaced f = ArePlaced (items (numbers_in (tree_of f))) f × IsArray (numbers_in (tree_of f))
