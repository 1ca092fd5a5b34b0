-- Rows by their numbers.
use Rattle.std.specs.Prelude.{◌≡◌, ◌⊎◌, ℕ, ◌-◌, ◌<◌, ◌≤◌, List, [], ◌∷◌, length, take, drop}
use Rattle.std.specs.List.{AllByRecursion}
use Rattle.std.specs.List.Sorted.{IsPermutation}
use Rattle.gx_pages.specs.declared.row.RowRef.{RowRef}
use Rattle.gx_pages.specs.declared.rows.Part.{Part}

-- all numbers are below this one
abbrev pub AreBelow : List RowRef → ℕ → Type 0
AreBelow rows number = AllByRecursion (λ row. row.number < number) rows

-- the numbers rise
abbrev pub IsRising : List RowRef → Type 0
IsRising [] = Unit {0}
IsRising (row ∷ rows) = AllByRecursion (λ other. row.number < other.number) rows × IsRising rows

-- one of the rows has this number
abbrev pub HasNumber : List RowRef → ℕ → Type 0
HasNumber [] number = ⊥
HasNumber (row ∷ rows) number = (row.number ≡ number) ⊎ HasNumber rows number

-- two of the rows have one number
pub record HasTwice (rows : List RowRef) : Type 0 where
  pub one : RowRef
  pub other : RowRef
  pub rest : List RowRef
  pub among : IsPermutation rows (one ∷ other ∷ rest)
  pub same : one.number ≡ other.number

-- a row whose bytes are a part of others
abbrev pub part_of : List ℕ → Part → RowRef × List ℕ
part_of bytes part = (part.row, take (part.to - part.from) (drop part.from bytes))

-- each part lies in the bytes
abbrev pub LieIn : List ℕ → List Part → Type 0
LieIn bytes parts = AllByRecursion (λ part. (part.from ≤ part.to) × (part.to ≤ length bytes)) parts
