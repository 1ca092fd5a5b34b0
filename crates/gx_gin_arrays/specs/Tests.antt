-- The classes array_ops and gin__int_ops of int4[].
use Rattle.std.specs.Prelude.{◌≡◌, ℕ, Bool, false, List, [], ℤ, if◌then◌else◌}
use Rattle.gx_formula.specs.Formula.{Tree, is_true_where}
use Rattle.gx_gin.specs.declared.wanted.Mode.{Mode}
use Rattle.gx_gin.specs.declared.wanted.Mode.TheVariants.{Default, IncludeEmpty, All}
use Rattle.gx_gist.specs.declared.test.Test.{Test}
use Rattle.gx_gist.specs.declared.test.Test.TheVariants.{Maybe}
use Rattle.gx_intarr.specs.Arrays.{IsArray}
use Rattle.gx_intarr.specs.Formula.{IsTrueOf}
use Rattle.gx_intarr.specs.Operators.{Overlap, ContainsEach}
use Rattle.gx_gin_items.specs.Tests.{all_found, some_found, sure, maybe, flag_of, unless_empty}
use Rattle.gx_gin_arrays.specs.Numbers.{number_item, items, numbers_in}
use Rattle.gx_gin_arrays.specs.Placed.{tree_of, IsPlaced}
use Rattle.gx_gin_arrays.specs.declared.int_query.IntQuery.{IntQuery}
use Rattle.gx_gin_arrays.specs.declared.int_query.IntQuery.TheVariants as query

-- The operator holds of the array and its operand.
abbrev pub Holds : IntQuery → List ℤ → Type 0
Holds (query.Overlaps b) a = Overlap a b
Holds (query.Contains b) a = ContainsEach a b
Holds (query.Within b) a = ContainsEach b a
Holds (query.Equal b) a = a ≡ b
Holds (query.Formula p) a = IsTrueOf (tree_of p.formula) a

-- The numbers of the operand are int4, and those of a formula have their places.
abbrev pub IsQuery : IntQuery → Type 0
IsQuery (query.Overlaps b) = IsArray b
IsQuery (query.Contains b) = IsArray b
IsQuery (query.Within b) = IsArray b
IsQuery (query.Equal b) = IsArray b
IsQuery (query.Formula p) = IsPlaced p.formula

-- The operator is one of array_ops, which lacks `@@`.
abbrev pub IsArrayQuery : IntQuery → Type 0
IsArrayQuery (query.Overlaps b) = IsArray b
IsArrayQuery (query.Contains b) = IsArray b
IsArrayQuery (query.Within b) = IsArray b
IsArrayQuery (query.Equal b) = IsArray b
IsArrayQuery (query.Formula p) = ⊥

-- the items that a query wants
abbrev pub wanted : IntQuery → List (List ℕ)
wanted (query.Overlaps b) = items b
wanted (query.Contains b) = items b
wanted (query.Within b) = items b
wanted (query.Equal b) = items b
wanted (query.Formula p) = items (numbers_in (tree_of p.formula))

-- the formula is true of an array without its numbers
abbrev pub is_true_of_none : Tree ℤ → Bool
is_true_of_none t = is_true_where (λ number. false) t

-- the rows that a query looks at
abbrev pub mode : IntQuery → Mode
mode (query.Overlaps b) = Default
mode (query.Contains b) = unless_empty All b
mode (query.Within b) = IncludeEmpty
mode (query.Equal b) = unless_empty IncludeEmpty b
mode (query.Formula p) = if is_true_of_none (tree_of p.formula) then All else Default

-- the formula is true where a number is true by the flag of its item
abbrev pub is_true_of_flags : List (List ℕ) → List Bool → Tree ℤ → Bool
is_true_of_flags wanted found t = is_true_where (λ number. flag_of wanted found (number_item number)) t

-- what flags of the wanted items say of a query
abbrev pub answer : IntQuery → List Bool → Test
answer (query.Overlaps b) found = sure (some_found found)
answer (query.Contains b) found = sure (all_found found)
answer (query.Within b) found = Maybe
answer (query.Equal b) found = maybe (all_found found)
answer (query.Formula p) found = sure (is_true_of_flags (items (numbers_in (tree_of p.formula))) found (tree_of p.formula))
