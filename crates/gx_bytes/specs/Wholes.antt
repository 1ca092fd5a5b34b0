-- Whole numbers as text: PostgreSQL 16, 8.1.1, in decimal digits.
use Rattle.std.specs.Prelude.{◌≡◌, ℕ, ◌<ℤ◌, ◌≤ℤ◌, ◌⊎◌, List, ℤ, Result, Ok, Err}
use Rattle.std.specs.Str.Parse.{IsNumeral, without_leading_sign, signed_digits_value}
use Rattle.gx_bytes.specs.declared.error.ValueError.{ValueError}
use Rattle.gx_bytes.specs.declared.error.ValueError.TheVariants.{NoValue, OutOfRange, TooDeep, Memory}
use Rattle.gx_bytes.specs.Blanks.{core_of}

-- optional white space, an optional sign, one or more digits, optional white space
pub record SpellsWhole (text : List ℕ) (n : ℤ) : Type 0 where
  pub numeral : IsNumeral 10 (without_leading_sign (core_of text))
  pub value : n ≡ signed_digits_value 10 (core_of text)

-- the number lies from the least to the greatest, both included
abbrev pub IsWithin : ℤ → ℤ → ℤ → Type 0
IsWithin least greatest n = (least ≤ℤ n) × (n ≤ℤ greatest)

-- or outside of them
abbrev pub IsOutside : ℤ → ℤ → ℤ → Type 0
IsOutside least greatest n = (n <ℤ least) ⊎ (greatest <ℤ n)

-- what each answer of the reader says of the text
abbrev pub AnswersWhole : List ℕ → ℤ → ℤ → Result ℤ ValueError → Type 0
AnswersWhole text least greatest (Ok n) = SpellsWhole text n × IsWithin least greatest n
AnswersWhole text least greatest (Err NoValue) = (n : ℤ) → SpellsWhole text n → ⊥
AnswersWhole text least greatest (Err OutOfRange) =
    (n : ℤ) × SpellsWhole text n × IsOutside least greatest n
AnswersWhole text least greatest (Err TooDeep) = ⊥
AnswersWhole text least greatest (Err Memory) = ⊥

-- a text has one answer
abbrev pub OneWholeAnswer : Type 0
OneWholeAnswer =
    (text : List ℕ) (least greatest : ℤ) (r s : Result ℤ ValueError) → AnswersWhole text least greatest r → AnswersWhole text least greatest s → r ≡ s
