-- All operators of int4[] (PostgreSQL 16, 9.19 and F.20.2).
use Rattle.std.specs.Prelude.{◌≡◌, Bool, true, ◌&&◌, List, [], ◌∷◌, ℤ, Contains, All, Any}
use Rattle.std.specs.List.{list_any}
use Rattle.std.specs.Ordering.{int_eq}
use Rattle.std.specs.Cmp.Lexicographic.{pointwise}
use Rattle.gx_intarr.specs.declared.operators.IntQuery.{IntQuery}
use Rattle.gx_intarr.specs.declared.operators.IntQuery.TheVariants as query
use Rattle.gx_intarr.specs.Formula.{tree_of, IsTrueOf, has, is_true_of}

-- some element of b is one of a
abbrev pub Overlap : List ℤ → List ℤ → Type 0
Overlap a b = Any (λ n. Contains a n) b

-- each element of b is one of a
abbrev pub ContainsEach : List ℤ → List ℤ → Type 0
ContainsEach a b = All (λ n. Contains a n) b

-- the operator holds of the array and its operand
abbrev pub Holds : IntQuery → List ℤ → Type 0
Holds (query.Overlaps b) a = Overlap a b
Holds (query.Contains b) a = ContainsEach a b
Holds (query.Within b) a = ContainsEach b a
Holds (query.Equal b) a = a ≡ b
Holds (query.Formula q) a = IsTrueOf (tree_of q.formula) a

-- the tests of the same
abbrev pub has_each : List ℤ → List ℤ → Bool
has_each a [] = true
has_each a (n ∷ b) = has a n && has_each a b

abbrev pub holds : IntQuery → List ℤ → Bool
holds (query.Overlaps b) a = list_any (has a) b
holds (query.Contains b) a = has_each a b
holds (query.Within b) a = has_each b a
holds (query.Equal b) a = pointwise int_eq a b
holds (query.Formula q) a = is_true_of (tree_of q.formula) a
