-- The texts of queries (PostgreSQL 16, F.23.1):
--   lquery  = item { "." item }
--   item    = "*" [count] | ["!"] variant { "|" variant } [count]
--   variant = label { "@" | "*" }
--   count   = "{" n "}" | "{" n ",}" | "{" n "," m "}" | "{," m "}"
use Rattle.std.specs.Prelude.{◌≡◌, ◌==◌, ℕ, ◌+◌, ◌<◌, ◌^◌, ◌⊎◌, Bool, true, false, ◌||◌, List, [], ◌∷◌, ◌++◌, length, drop, slice_index, Option, None, Some, option_map, Result, Ok, Err, if◌then◌else◌, bytes_eq}
use Rattle.std.specs.List.{AllZip, AllByRecursion, list_any}
use Rattle.std.specs.Str.Parse.{IsNumeral, digits_value}
use Rattle.gx_bytes.specs.declared.error.ValueError.{ValueError}
use Rattle.gx_bytes.specs.declared.error.ValueError.TheVariants.{NoValue, OutOfRange, TooDeep, Memory}
use Rattle.gx_ltree.specs.Label.{TakesLabel}
use Rattle.gx_lquery.specs.declared.variant.Variant.{Variant}
use Rattle.gx_lquery.specs.declared.query.LqueryItem.{LqueryItem}
use Rattle.gx_lquery.specs.declared.query.Lquery.{Lquery}
use Rattle.gx_lquery.specs.Matching.{IsAtMost}

-- a byte before the first of some pieces
abbrev pub before_pieces : ℕ → List (List ℕ) → List (List ℕ)
before_pieces c [] = (c ∷ []) ∷ []
before_pieces c (piece ∷ pieces) = (c ∷ piece) ∷ pieces

-- the pieces of a text between the separators
abbrev pub split : ℕ → List ℕ → List (List ℕ)
split separator [] = [] ∷ []
split separator (c ∷ text) =
    if c == separator then [] ∷ split separator text else before_pieces c (split separator text)

-- what stands before the first of a byte, and behind it
abbrev pub cut : ℕ → List ℕ → Option (List ℕ × List ℕ)
cut byte [] = None
cut byte (c ∷ text) =
    if c == byte then Some ([], text)
    else option_map (λ (parts : List ℕ × List ℕ). (c ∷ parts.0, parts.1)) (cut byte text)

-- `@` (64) or `*` (42)
abbrev pub is_mark : ℕ → Bool
is_mark c = c == 64 || c == 42

-- a label and marks
pub record SpellsVariant (text : List ℕ) (variant : Variant) : Type 0 where
  pub marks : List ℕ
  pub takes : TakesLabel text variant.label marks
  pub each : AllByRecursion (λ c. is_mark c ≡ true) marks
  pub prefix : variant.prefix ≡ list_any (λ c. c == 42) marks
  pub caseless : variant.caseless ≡ list_any (λ c. c == 64) marks

-- a number up to 65,535 in digits, which may begin with zeros
pub record IsCount (digits : List ℕ) (n : ℕ) : Type 0 where
  pub numeral : IsNumeral 10 digits
  pub value : n ≡ digits_value 10 digits
  pub small : n < 2 ^ 16

-- nothing for 0, or a number
abbrev pub SpellsLeast : List ℕ → ℕ → Type 0
SpellsLeast text least = ((text ≡ []) × (least ≡ 0)) ⊎ IsCount text least

-- nothing for no limit, or a number
abbrev pub SpellsMost : List ℕ → Option ℕ → Type 0
SpellsMost text None = text ≡ []
SpellsMost text (Some most) = IsCount text most

-- one number for both limits; or two behind one another, of which one may be left out
abbrev pub SpellsLimits : Option (List ℕ × List ℕ) → List ℕ → ℕ → Option ℕ → Type 0
SpellsLimits None text least most = IsCount text least × (most ≡ Some least)
SpellsLimits (Some parts) text least most = SpellsLeast parts.0 least × SpellsMost parts.1 most × IsAtMost least most × (0 < length parts.0 + length parts.1)

-- up to the closing brace (125), parted by a comma (44)
pub record SpellsBraces (text : List ℕ) (least : ℕ) (most : Option ℕ) : Type 0 where
  pub inner : List ℕ
  pub parts : text ≡ inner ++ 125 ∷ []
  pub limits : SpellsLimits (cut 44 inner) inner least most

-- any number of labels for `*` without a count, one for another item without a count
abbrev pub IsDefault : Bool → ℕ → Option ℕ → Type 0
IsDefault true least most = (least ≡ 0) × (most ≡ None)
IsDefault false least most = (least ≡ 1) × (most ≡ Some 1)

abbrev pub SpellsCount : Bool → Option (List ℕ) → ℕ → Option ℕ → Type 0
SpellsCount star None least most = IsDefault star least most
SpellsCount star (Some text) least most = SpellsBraces text least most

-- `!` (33) comes first
abbrev pub has_bang : List ℕ → Bool
has_bang body = slice_index body 0 == 33

abbrev pub without_bang : List ℕ → List ℕ
without_bang body = drop (if has_bang body then 1 else 0) body

-- `*` alone, or the variants between the bars (124), behind `!` where it is negated
abbrev pub SpellsBody : Bool → List ℕ → Bool → List Variant → Type 0
SpellsBody true body negated variants = (negated ≡ false) × (variants ≡ [])
SpellsBody false body negated variants =
    (negated ≡ has_bang body) × AllZip SpellsVariant (split 124 (without_bang body)) variants

-- a body, and a count behind it, if there is one
pub record SpellsWith (body : List ℕ) (count : Option (List ℕ)) (item : LqueryItem) : Type 0 where
  pub star : item.star ≡ bytes_eq body (42 ∷ [])
  pub words : SpellsBody item.star body item.negated item.variants
  pub limits : SpellsCount item.star count item.least item.most

-- the count begins at the first opening brace (123)
abbrev pub SpellsParts : Option (List ℕ × List ℕ) → List ℕ → LqueryItem → Type 0
SpellsParts None text item = SpellsWith text None item
SpellsParts (Some parts) text item = SpellsWith parts.0 (Some parts.1) item

abbrev pub SpellsItem : List ℕ → LqueryItem → Type 0
SpellsItem text item = SpellsParts (cut 123 text) text item

-- the pieces between the dots (46) are the items
abbrev pub SpellsLquery : List ℕ → Lquery → Type 0
SpellsLquery text query = AllZip SpellsItem (split 46 text) query.items

-- what each answer of the reader says of the text
abbrev pub AnswersLquery : List ℕ → Result Lquery ValueError → Type 0
AnswersLquery text (Ok query) = SpellsLquery text query
AnswersLquery text (Err NoValue) = (query : Lquery) → SpellsLquery text query → ⊥
AnswersLquery text (Err OutOfRange) = ⊥
AnswersLquery text (Err TooDeep) = ⊥
AnswersLquery text (Err Memory) = Unit {0}
