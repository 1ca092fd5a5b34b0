-- The operators between two paths (PostgreSQL 16, F.23.1).
use Rattle.std.specs.Prelude.{◌≡◌, ℕ, Bool, true, false, ◌&&◌, List, [], ◌∷◌, ◌++◌, bytes_eq}
use Rattle.std.specs.Ordering.{nat_cmp, is_eq, is_lt, is_le, is_gt, is_ge}
use Rattle.std.specs.Cmp.Lexicographic.{slice_cmp}
use Rattle.std.specs.declared.cmp.Ordering.{Ordering}
use Rattle.gx_ltree.specs.declared.operators.LtreeOp.{LtreeOp}
use Rattle.gx_ltree.specs.declared.operators.LtreeOp.TheVariants.{Less, LessEqual, Equal, GreaterEqual, Greater, Above, Below}

-- label by label by bytes, a prefix first
abbrev pub order : List (List ℕ) → List (List ℕ) → Ordering
order x y = slice_cmp (slice_cmp nat_cmp) x y

-- the path begins with these labels
abbrev pub IsPrefix : List (List ℕ) → List (List ℕ) → Type 0
IsPrefix front path = (rest : List (List ℕ)) × (path ≡ front ++ rest)

-- the operator holds of the value and the operand
abbrev pub Holds : LtreeOp → List (List ℕ) → List (List ℕ) → Type 0
Holds Less value operand = is_lt (order value operand) ≡ true
Holds LessEqual value operand = is_le (order value operand) ≡ true
Holds Equal value operand = value ≡ operand
Holds GreaterEqual value operand = is_ge (order value operand) ≡ true
Holds Greater value operand = is_gt (order value operand) ≡ true
Holds Above value operand = IsPrefix value operand
Holds Below value operand = IsPrefix operand value

-- the tests of the same
abbrev pub begins_with : List (List ℕ) → List (List ℕ) → Bool
begins_with path [] = true
begins_with [] (label ∷ front) = false
begins_with (first ∷ path) (label ∷ front) = bytes_eq first label && begins_with path front

abbrev pub holds : LtreeOp → List (List ℕ) → List (List ℕ) → Bool
holds Less value operand = is_lt (order value operand)
holds LessEqual value operand = is_le (order value operand)
holds Equal value operand = is_eq (order value operand)
holds GreaterEqual value operand = is_ge (order value operand)
holds Greater value operand = is_gt (order value operand)
holds Above value operand = begins_with operand value
holds Below value operand = begins_with value operand
