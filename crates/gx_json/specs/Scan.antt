-- What is checked on the text of a document outside of its strings.
use Rattle.std.specs.Prelude.{◌≡◌, ◌≢◌, ◌==◌, ℕ, ◌+◌, ◌-◌, ◌^◌, ◌<◌, ◌⊎◌, Bool, ◌||◌, if◌then◌else◌, List, [], ◌∷◌, ◌++◌, drop, take, fold, slice_index, ℤ, pos, neg_ℤ}
use Rattle.std.specs.Char.{is_ascii_digit}
use Rattle.std.specs.Str.Parse.{IsNumeral, digits_value, starts_with_minus}
use Rattle.gx_bytes.specs.declared.error.ValueError.{ValueError}
use Rattle.gx_bytes.specs.declared.error.ValueError.TheVariants.{NoValue, OutOfRange, TooDeep, Memory}
use Rattle.gx_bytes.specs.Wholes.{IsWithin, IsOutside}

-- The text with the opening quote alone of each string. A string runs from a quote (34) to the next that no
-- backslash (92) escapes.
abbrev mutual
  pub outside : List ℕ → List ℕ
  outside [] = []
  outside (c ∷ cs) = c ∷ (if c == 34 then inside cs else outside cs)

  pub inside : List ℕ → List ℕ
  inside [] = []
  inside (c ∷ cs) = if c == 34 then outside cs else (if c == 92 then escaped cs else inside cs)

  pub escaped : List ℕ → List ℕ
  escaped [] = []
  escaped (c ∷ cs) = inside cs

-- `[` or `{`; `]` or `}`
abbrev pub is_opening : ℕ → Bool
is_opening c = c == 91 || c == 123

abbrev pub is_closing : ℕ → Bool
is_closing c = c == 93 || c == 125

-- how many stand open behind one sign more: a closing one closes the last open one, whichever it is
abbrev pub open_behind : ℕ → ℕ → ℕ
open_behind count c = if is_opening c then count + 1 else (if is_closing c then count - 1 else count)

abbrev pub opened : List ℕ → ℕ
opened signs = fold open_behind 0 signs

-- at some place more than 64 stand open
abbrev pub OpensTooMany : List ℕ → Type 0
OpensTooMany signs = (place : ℕ) × (64 < opened (take place signs))

-- a number begins with a digit or `-`, and goes on with digits and `+ - . e E`
abbrev pub begins_run : ℕ → Bool
begins_run c = is_ascii_digit c || c == 45

abbrev pub is_run_byte : ℕ → Bool
is_run_byte c = ((begins_run c || c == 43) || c == 46) || (c == 101 || c == 69)

-- the longest runs of such bytes, each from the first byte behind the run before that begins one
abbrev mutual
  pub runs : List ℕ → List (List ℕ)
  runs [] = []
  runs (c ∷ cs) = if begins_run c then runs_from (c ∷ []) cs else runs cs

  -- of a run that has begun, and what stands behind it
  pub runs_from : List ℕ → List ℕ → List (List ℕ)
  runs_from run [] = run ∷ []
  runs_from run (c ∷ cs) = if is_run_byte c then runs_from (run ++ c ∷ []) cs else run ∷ runs cs

-- without a leading `-`
abbrev pub without_minus : List ℕ → List ℕ
without_minus run = if starts_with_minus run then drop 1 run else run

-- `0`, or an optional `-` and digits without a leading zero
abbrev pub IsWholeText : List ℕ → Type 0
IsWholeText run = (run ≡ 48 ∷ []) ⊎ (IsNumeral 10 (without_minus run) × (slice_index (without_minus run) 0 ≢ 48))

abbrev pub number_of : List ℕ → ℤ
number_of run =
    if starts_with_minus run then neg_ℤ (pos (digits_value 10 (without_minus run))) else pos (digits_value 10 (without_minus run))

abbrev pub least : ℤ
least = neg_ℤ (pos (2 ^ 63))

abbrev pub greatest : ℤ
greatest = pos (2 ^ 63 - 1)

pub record IsInteger (run : List ℕ) : Type 0 where
  pub whole : IsWholeText run
  pub within : IsWithin least greatest (number_of run)

-- what is wrong with a run
abbrev pub HasFault : List ℕ → ValueError → Type 0
HasFault run NoValue = IsWholeText run → ⊥
HasFault run OutOfRange = IsWholeText run × IsOutside least greatest (number_of run)
HasFault run TooDeep = ⊥
HasFault run Memory = ⊥

-- the first run that is no integer has this fault
abbrev pub HasFirstFault : List (List ℕ) → ValueError → Type 0
HasFirstFault [] fault = ⊥
HasFirstFault (run ∷ more) fault = HasFault run fault ⊎ (IsInteger run × HasFirstFault more fault)
