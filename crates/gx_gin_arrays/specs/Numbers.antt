-- Numbers as items.
use Rattle.std.specs.Prelude.{ℕ, ◌+◌, ◌%◌, ◌^◌, List, [], ◌∷◌, ◌++◌, map, ℤ}
use Rattle.std.specs.Int.{w32, cast_unsigned}
use Rattle.byteorder.specs.Endian.{big_bytes}
use Rattle.gx_formula.specs.Formula.{Tree, Word, Not, And, Or}
use Rattle.gx_gin.specs.Rising.{rising_of}

-- four bytes, the highest first, with the sign bit turned
abbrev pub number_item : ℤ → List ℕ
number_item number = big_bytes 4 ((cast_unsigned w32 number + 2 ^ 31) % 2 ^ 32)

-- the items of an array: each distinct element
abbrev pub items : List ℤ → List (List ℕ)
items numbers = rising_of (map number_item numbers)

-- the numbers of a formula
abbrev pub numbers_in : Tree ℤ → List ℤ
numbers_in (Word number) = number ∷ []
numbers_in (Not t) = numbers_in t
numbers_in (And t u) = numbers_in t ++ numbers_in u
numbers_in (Or t u) = numbers_in t ++ numbers_in u
