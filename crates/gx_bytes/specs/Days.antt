-- Days as text: ISO 8601, as PostgreSQL 16, 8.5.1 and 8.5.2 has it, in the years 1 to 9999.
use Rattle.std.specs.Prelude.{◌≡◌, ℕ, zero, suc, ◌+◌, ◌/◌, ◌%◌, ◌≤◌, Bool, List, [], ◌∷◌, ◌++◌, length, ℤ, pos, neg_ℤ, ◌-ℤ◌, int_le, unsigned_abs, Result, Ok, Err, if◌then◌else◌}
use Rattle.std.specs.Str.Parse.{AllDigits, digits_value}
use Rattle.jiff_core.specs.Calendar.{IsCivilDate, days_from_civil}
use Rattle.gx_bytes.specs.declared.error.ValueError.{ValueError}
use Rattle.gx_bytes.specs.declared.error.ValueError.TheVariants.{NoValue, OutOfRange, TooDeep, Memory}
use Rattle.gx_bytes.specs.Blanks.{core_of}
use Rattle.gx_bytes.specs.Wholes.{IsWithin}

-- so many digits, which write the number
pub record IsField (count : ℕ) (digits : List ℕ) (n : ℕ) : Type 0 where
  pub size : length digits ≡ count
  pub each : AllDigits 10 digits
  pub value : n ≡ digits_value 10 digits

-- four digits of a year, a hyphen, two of a month, a hyphen, two of a day
pub record IsDateForm (core : List ℕ) (year month day : ℕ) : Type 0 where
  pub year_text : List ℕ
  pub month_text : List ℕ
  pub day_text : List ℕ
  pub parts : core ≡ year_text ++ 45 ∷ (month_text ++ 45 ∷ day_text)
  pub year_field : IsField 4 year_text year
  pub month_field : IsField 2 month_text month
  pub day_field : IsField 2 day_text day

-- the calendar has the day, in a year from 1 on
abbrev pub IsInCalendar : ℕ → ℕ → ℕ → Type 0
IsInCalendar year month day = (1 ≤ year) × IsCivilDate (pos year) month day

-- and it has this number, where 1970-01-01 is 0
abbrev pub IsDay : ℕ → ℕ → ℕ → ℤ → Type 0
IsDay year month day n =
    IsInCalendar year month day × (n ≡ days_from_civil (pos year) month day)

-- optional white space, a date of that form and of that number, optional white space
pub record SpellsDay (text : List ℕ) (n : ℤ) : Type 0 where
  pub year : ℕ
  pub month : ℕ
  pub day : ℕ
  pub form : IsDateForm (core_of text) year month day
  pub number : IsDay year month day n

-- what each answer of the reader says of the text
abbrev pub AnswersDay : List ℕ → Result ℤ ValueError → Type 0
AnswersDay text (Ok n) = SpellsDay text n
AnswersDay text (Err NoValue) = (y m d : ℕ) → IsDateForm (core_of text) y m d → ⊥
AnswersDay text (Err OutOfRange) =
    (y : ℕ) × (m : ℕ) × (d : ℕ) × IsDateForm (core_of text) y m d × (IsInCalendar y m d → ⊥)
AnswersDay text (Err TooDeep) = ⊥
AnswersDay text (Err Memory) = ⊥

-- a text has one answer
abbrev pub OneDayAnswer : Type 0
OneDayAnswer =
    (text : List ℕ) (r s : Result ℤ ValueError) → AnswersDay text r → AnswersDay text s → r ≡ s

-- the day is one of the years 1 to 9999: from 0001-01-01 to 9999-12-31
abbrev pub IsDateDay : ℤ → Type 0
IsDateDay n = IsWithin (neg_ℤ (pos 719_162)) (pos 2_932_896) n

-- the greatest number of at most `most` that passes, or 0
unfoldable pub last_passing : (ℕ → Bool) → ℕ → ℕ
last_passing passes zero = 0
last_passing passes (suc n) = if passes (suc n) then suc n else last_passing passes n

-- the last year, the last month of it and the day of that which have begun by this day
unfoldable pub year_of : ℤ → ℕ
year_of n = last_passing (λ y. int_le (days_from_civil (pos y) 1 1) n) 9999

unfoldable pub month_of : ℤ → ℕ
month_of n = last_passing (λ m. int_le (days_from_civil (pos (year_of n)) m 1) n) 12

unfoldable pub day_of_month : ℤ → ℕ
day_of_month n = unsigned_abs (n -ℤ days_from_civil (pos (year_of n)) (month_of n) 1) + 1

-- a number below 100 in two digits, and one below 10,000 in four
abbrev pub two_digits : ℕ → List ℕ
two_digits n = (48 + n / 10) ∷ (48 + n % 10) ∷ []

abbrev pub four_digits : ℕ → List ℕ
four_digits n = two_digits (n / 100) ++ two_digits (n % 100)

-- the one printed text of a day of the years 1 to 9999
abbrev pub printed_day : ℤ → List ℕ
printed_day n =
    four_digits (year_of n) ++ 45 ∷ (two_digits (month_of n) ++ 45 ∷ two_digits (day_of_month n))
