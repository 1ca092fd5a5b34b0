-- The reader's answers, check by check: each fault is that of the first check that fails.
use Rattle.std.specs.Prelude.{◌≡◌, ℕ, ◌<◌, ◌≤◌, ◌⊎◌, true, false, List, Option, None, Some, Result, Ok, Err}
use Rattle.std.specs.List.{AllByRecursion}
use Rattle.std.specs.declared.alloc.AllocError.{AllocError}
use Rattle.serde_json.specs.Data.{Data, depth}
use Rattle.serde_json.specs.Read.{read}
use Rattle.serde_json.specs.Written.{compact_text}
use Rattle.gx_bytes.specs.declared.error.ValueError.{ValueError}
use Rattle.gx_bytes.specs.declared.error.ValueError.TheVariants.{NoValue, OutOfRange, TooDeep, Memory}
use Rattle.gx_json.specs.Valid.{all_whole, has_zero, IsDocument}
use Rattle.gx_json.specs.Scan.{outside, OpensTooMany, runs, IsInteger, HasFirstFault}

-- outside strings at most 64 brackets stand open, and the numbers are integers of 64 bits
pub record PassesText (text : List ℕ) : Type 0 where
  pub few : OpensTooMany (outside text) → ⊥
  pub integers : AllByRecursion IsInteger (runs (outside text))

abbrev pub IsTextFault : List ℕ → ValueError → Type 0
IsTextFault text TooDeep = OpensTooMany (outside text)
IsTextFault text NoValue = (OpensTooMany (outside text) → ⊥) × HasFirstFault (runs (outside text)) NoValue
IsTextFault text OutOfRange = (OpensTooMany (outside text) → ⊥) × HasFirstFault (runs (outside text)) OutOfRange
IsTextFault text Memory = ⊥

-- the same of the value as it was read, whose texts have no U+0000
pub record PassesValue (d : Data) : Type 0 where
  pub shallow : depth d ≤ 64
  pub whole : all_whole d ≡ true
  pub plain : has_zero d ≡ false

abbrev pub IsValueFault : Data → ValueError → Type 0
IsValueFault d TooDeep = 64 < depth d
IsValueFault d OutOfRange = (depth d ≤ 64) × (all_whole d ≡ false)
IsValueFault d NoValue = (depth d ≤ 64) × (all_whole d ≡ true) × (has_zero d ≡ true)
IsValueFault d Memory = ⊥

-- `serde_json` reads no value, or one with a fault
abbrev pub IsReadFault : List ℕ → ValueError → Type 0
IsReadFault text fault = ((fault ≡ NoValue) × (read text ≡ None)) ⊎ ((d : Data) × (read text ≡ Some d) × IsValueFault d fault)

abbrev pub IsFault : List ℕ → ValueError → Type 0
IsFault text fault = IsTextFault text fault ⊎ (PassesText text × IsReadFault text fault)

-- what each answer of the reader says of the text
abbrev pub AnswersJson : List ℕ → Result Data ValueError → Type 0
AnswersJson text (Ok d) = PassesText text × (read text ≡ Some d) × PassesValue d
AnswersJson text (Err NoValue) = IsFault text NoValue
AnswersJson text (Err OutOfRange) = IsFault text OutOfRange
AnswersJson text (Err TooDeep) = IsFault text TooDeep
AnswersJson text (Err Memory) = Unit {0}

-- the document whose bytes these are, or none where there is none
abbrev pub DecodesTo : List ℕ → Result (Option Data) AllocError → Type 0
DecodesTo bytes (Ok None) = (d : Data) → IsDocument d → bytes ≡ compact_text d → ⊥
DecodesTo bytes (Ok (Some d)) = IsDocument d × (bytes ≡ compact_text d)
DecodesTo bytes (Err _) = Unit {0}
