-- Numbers of queries (PostgreSQL 16, F.20.1).
use Rattle.std.specs.Prelude.{◌≡◌, ℕ, ◌<◌, Bool, true, false, List, [], ◌∷◌, ◌++◌, length, ℤ}
use Rattle.std.specs.Char.{is_ascii_digit}
use Rattle.gx_bytes.specs.Wholes.{SpellsWhole, IsOutside}
use Rattle.gx_intarr.specs.Runs.{Pass, Stops}
use Rattle.gx_intarr.specs.Arrays.{least, greatest, SpellsInt4}

-- `-` (45) or nothing
abbrev pub minus_sign : Bool → List ℕ
minus_sign true = 45 ∷ []
minus_sign false = []

-- an optional `-`, all digits that follow it, at least one, and a rest
pub record TakesNumber (text raw rest : List ℕ) : Type 0 where
  pub minus : Bool
  pub digits : List ℕ
  pub parts : text ≡ raw ++ rest
  pub is : raw ≡ minus_sign minus ++ digits
  pub some : 0 < length digits
  pub each : Pass is_ascii_digit digits
  pub stops : Stops is_ascii_digit rest

-- a number of int4 at the front, and a rest
abbrev pub TakesInt4 : List ℕ → ℤ → List ℕ → Type 0
TakesInt4 text n rest = (raw : List ℕ) × TakesNumber text raw rest × SpellsInt4 raw n

-- another number at the front
abbrev pub IsFarNumber : List ℕ → Type 0
IsFarNumber text =
    (raw : List ℕ) × (rest : List ℕ) × (n : ℤ) × TakesNumber text raw rest × SpellsWhole raw n × IsOutside least greatest n
