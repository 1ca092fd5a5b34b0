-- Arrays of int4 (PostgreSQL 16, 8.15): lists of numbers, their texts and their bytes.
use Rattle.std.specs.Prelude.{◌≡◌, ℕ, ◌^◌, ◌-◌, Bool, List, ◌∷◌, ◌++◌, length, map, Contains, ◌↔◌, ℤ, pos, neg_ℤ, Option, None, Some, Result, Ok, Err}
use Rattle.std.specs.List.{AllZip, AllByRecursion, flat_map, list_any}
use Rattle.std.specs.List.Sorted.{IsSorted, IsStrictlySortedBy}
use Rattle.std.specs.Ordering.{int_cmp}
use Rattle.std.specs.Int.{w32, to_le_bytes, cast_unsigned}
use Rattle.std.specs.Fmt.{signed_decimal}
use Rattle.std.specs.declared.alloc.AllocError.{AllocError}
use Rattle.gx_bytes.specs.declared.error.ValueError.{ValueError}
use Rattle.gx_bytes.specs.declared.error.ValueError.TheVariants.{NoValue, OutOfRange, TooDeep, Memory}
use Rattle.gx_bytes.specs.Wholes.{SpellsWhole, IsWithin, IsOutside}
use Rattle.gx_bytes.specs.Varints.{IsVarint}
use Rattle.gx_intarr.specs.Texts.{SpellsTexts, braced}

abbrev pub least : ℤ
least = neg_ℤ (pos (2 ^ 31))

abbrev pub greatest : ℤ
greatest = pos (2 ^ 31 - 1)

-- the numbers that an int4 has
abbrev pub IsInt4 : ℤ → Type 0
IsInt4 n = IsWithin least greatest n

-- each element is an int4
abbrev pub IsArray : List ℤ → Type 0
IsArray items = AllByRecursion IsInt4 items

-- the elements again, in rising order
abbrev pub IsSortedCopy : List ℤ → List ℤ → Type 0
IsSortedCopy items sorted = ((p : ℤ → Bool) → list_any p items ≡ list_any p sorted) × IsSorted int_cmp sorted

-- the elements, each once, in rising order
abbrev pub IsDistinctCopy : List ℤ → List ℤ → Type 0
IsDistinctCopy items distinct = ((n : ℤ) → Contains items n ↔ Contains distinct n) × IsStrictlySortedBy int_cmp distinct

abbrev pub SpellsInt4 : List ℕ → ℤ → Type 0
SpellsInt4 text n = SpellsWhole text n × IsInt4 n

-- each text spells its number
abbrev pub AreNumbers : List (List ℕ) → List ℤ → Type 0
AreNumbers texts items = AllZip SpellsInt4 texts items

-- the first text that spells no int4 spells another number
pub record LeavesRange (texts : List (List ℕ)) : Type 0 where
  pub front : List (List ℕ)
  pub numbers : List ℤ
  pub text : List ℕ
  pub rest : List (List ℕ)
  pub number : ℤ
  pub parts : texts ≡ front ++ text ∷ rest
  pub before : AreNumbers front numbers
  pub spelled : SpellsWhole text number
  pub outside : IsOutside least greatest number

-- what each answer says of the texts
abbrev pub AnswersNumbers : List (List ℕ) → Result (List ℤ) ValueError → Type 0
AnswersNumbers texts (Ok items) = AreNumbers texts items
AnswersNumbers texts (Err NoValue) = ((items : List ℤ) → AreNumbers texts items → ⊥) × (LeavesRange texts → ⊥)
AnswersNumbers texts (Err OutOfRange) = LeavesRange texts
AnswersNumbers texts (Err TooDeep) = ⊥
AnswersNumbers texts (Err Memory) = Unit {0}

-- the text of an array, and then each element's text
pub record SpellsArray (text : List ℕ) (items : List ℤ) : Type 0 where
  pub texts : List (List ℕ)
  pub spelled : SpellsTexts text texts
  pub numbers : AreNumbers texts items

pub record HasFarNumber (text : List ℕ) : Type 0 where
  pub texts : List (List ℕ)
  pub spelled : SpellsTexts text texts
  pub leaves : LeavesRange texts

-- what each answer of the reader says of the text
abbrev pub AnswersArray : List ℕ → Result (List ℤ) ValueError → Type 0
AnswersArray text (Ok items) = SpellsArray text items
AnswersArray text (Err NoValue) = ((items : List ℤ) → SpellsArray text items → ⊥) × (HasFarNumber text → ⊥)
AnswersArray text (Err OutOfRange) = HasFarNumber text
AnswersArray text (Err TooDeep) = ⊥
AnswersArray text (Err Memory) = Unit {0}

-- the numbers in decimal, in braces with commas between them
abbrev pub printed : List ℤ → List ℕ
printed items = braced (map signed_decimal items)

-- four bytes a number, the lowest first
abbrev pub number_bytes : ℤ → List ℕ
number_bytes n = to_le_bytes w32 (cast_unsigned w32 n)

abbrev pub items_bytes : List ℤ → List ℕ
items_bytes items = flat_map number_bytes items

-- the count as a varint, and then the numbers
abbrev pub IsEncoding : List ℕ → List ℤ → Type 0
IsEncoding bytes items =
    (count : List ℕ) × IsVarint count (length items) × (bytes ≡ count ++ items_bytes items)

-- new is old with the bytes of the array at its end
abbrev pub AppendsArray : List ℕ → List ℕ → List ℤ → Type 0
AppendsArray old new items = (bytes : List ℕ) × IsEncoding bytes items × (new ≡ old ++ bytes)

-- the array with these bytes, or none where no array has them
abbrev pub DecodesTo : List ℕ → Result (Option (List ℤ)) AllocError → Type 0
DecodesTo bytes (Ok None) = (items : List ℤ) → IsArray items → IsEncoding bytes items → ⊥
DecodesTo bytes (Ok (Some items)) = IsArray items × IsEncoding bytes items
DecodesTo bytes (Err _) = Unit {0}
