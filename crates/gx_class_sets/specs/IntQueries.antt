-- Queries over sets of numbers, and when they hold of an array (PostgreSQL 16, F.20.2).
use Rattle.std.specs.Prelude.{◌≡◌, List, ℤ}
use Rattle.gx_intarr.specs.Arrays.{IsArray}
use Rattle.gx_intarr.specs.Formula.{tree_of, IsTrueOf}
use Rattle.gx_intarr.specs.Operators.{Overlap, ContainsEach}
use Rattle.gx_class_sets.specs.declared.int_query.IntQuery.{IntQuery}
use Rattle.gx_class_sets.specs.declared.int_query.IntQuery.TheVariants as query

-- The operator holds of the array and its operand.
abbrev pub Holds : IntQuery → List ℤ → Type 0
Holds (query.Overlaps b) a = Overlap a b
Holds (query.Contains b) a = ContainsEach a b
Holds (query.Equal b) a = a ≡ b
Holds (query.Formula q) a = IsTrueOf (tree_of q.formula) a
