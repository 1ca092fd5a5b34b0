-- Bounds of ranges as text.
use Rattle.std.specs.Prelude.{◌≡◌, ◌≢◌, ℕ, Bool, true, false, ◌==◌, ◌||◌, List, [], ◌∷◌, ◌++◌, ◌⊎◌, All, slice_index, codes, ℤ, pos, Option, Some, None, Result, Ok, Err}
use Rattle.gx_bytes.specs.declared.error.ValueError.{ValueError}
use Rattle.gx_bytes.specs.declared.error.ValueError.TheVariants.{NoValue, OutOfRange, TooDeep, Memory}
use Rattle.gx_bytes.specs.Blanks.{core_of}
use Rattle.gx_bytes.specs.Wholes.{SpellsWhole, IsWithin, IsOutside}
use Rattle.gx_bytes.specs.Days.{SpellsDay, IsDateForm, IsInCalendar}
use Rattle.gx_range.specs.declared.range.RangeKind.{RangeKind}
use Rattle.gx_range.specs.declared.range.RangeKind.TheVariants.{Int4, Int8, Date}
use Rattle.gx_range.specs.Values.{least, greatest}

-- the day behind the last one, which is a bound though it is no date
abbrev pub far_text : List ℕ
far_text = codes "10000-01-01"

abbrev pub far_day : ℤ
far_day = pos 2_932_897

-- the text of a number of the type, or of a day
abbrev pub SpellsElement : RangeKind → List ℕ → ℤ → Type 0
SpellsElement Int4 text n = SpellsWhole text n × IsWithin (least Int4) (greatest Int4) n
SpellsElement Int8 text n = SpellsWhole text n × IsWithin (least Int8) (greatest Int8) n
SpellsElement Date text n = SpellsDay text n ⊎ ((text ≡ far_text) × (n ≡ far_day))

-- the text of a number that the type doesn't have, or of a day that the calendar lacks
abbrev pub LeavesElement : RangeKind → List ℕ → Type 0
LeavesElement Int4 text = (n : ℤ) × SpellsWhole text n × IsOutside (least Int4) (greatest Int4) n
LeavesElement Int8 text = (n : ℤ) × SpellsWhole text n × IsOutside (least Int8) (greatest Int8) n
LeavesElement Date text =
    (y : ℕ) × (m : ℕ) × (d : ℕ) × IsDateForm (core_of text) y m d × (IsInCalendar y m d → ⊥)

-- a quote, a comma, a round or a square bracket
abbrev pub is_stop : ℕ → Bool
is_stop c = (c == 34) || (c == 44) || (c == 40) || (c == 41) || (c == 91) || (c == 93)

-- the end, or one of those
abbrev pub Stops : List ℕ → Type 0
Stops [] = Unit {0}
Stops (c ∷ rest) = is_stop c ≡ true

-- the bytes up to the first of those, or to the end, and the rest
pub record SplitsAtStop (bytes text rest : List ℕ) : Type 0 where
  pub parts : bytes ≡ text ++ rest
  pub plain : All (λ c. is_stop c ≡ false) text
  pub stops : Stops rest

-- what is written at the front of the bytes, and what follows: without quotes it goes up to the
-- first quote, comma or bracket, or to the end; in quotes up to the next quote
abbrev pub IsWritten : List ℕ → Bool → List ℕ → List ℕ → Type 0
IsWritten bytes true text rest = (bytes ≡ 34 ∷ (text ++ 34 ∷ rest)) × All (λ c. c ≢ 34) text
IsWritten bytes false text rest = SplitsAtStop bytes text rest × (slice_index bytes 0 ≢ 34)

-- nothing without quotes is no bound; all else is an element
abbrev pub SpellsBound : RangeKind → Bool → List ℕ → Option ℤ → Type 0
SpellsBound kind quoted text None = (quoted ≡ false) × (text ≡ [])
SpellsBound kind quoted text (Some n) = SpellsElement kind text n

-- the bytes begin with this bound, and the rest follows
pub record IsBound (kind : RangeKind) (bytes : List ℕ) (bound : Option ℤ) (rest : List ℕ) : Type 0 where
  pub quoted : Bool
  pub text : List ℕ
  pub written : IsWritten bytes quoted text rest
  pub spelled : SpellsBound kind quoted text bound

-- the bytes begin with a bound that the type doesn't have, whatever follows
pub record LeavesBound (kind : RangeKind) (bytes : List ℕ) : Type 0 where
  pub quoted : Bool
  pub text : List ℕ
  pub rest : List ℕ
  pub written : IsWritten bytes quoted text rest
  pub leaves : LeavesElement kind text

-- what each answer says: of an element's text
abbrev pub AnswersElement : RangeKind → List ℕ → Result ℤ ValueError → Type 0
AnswersElement kind text (Ok n) = SpellsElement kind text n
AnswersElement kind text (Err NoValue) =
    ((n : ℤ) → SpellsElement kind text n → ⊥) × (LeavesElement kind text → ⊥)
AnswersElement kind text (Err OutOfRange) = LeavesElement kind text
AnswersElement kind text (Err TooDeep) = ⊥
AnswersElement kind text (Err Memory) = ⊥

-- and what each refusal says of bytes that are to begin with a bound
abbrev pub RefusesBound : RangeKind → List ℕ → ValueError → Type 0
RefusesBound kind bytes NoValue =
    ((bound : Option ℤ) (rest : List ℕ) → IsBound kind bytes bound rest → ⊥) × (LeavesBound kind bytes → ⊥)
RefusesBound kind bytes OutOfRange = LeavesBound kind bytes
RefusesBound kind bytes TooDeep = ⊥
RefusesBound kind bytes Memory = ⊥
