-- Ranges as text: PostgreSQL 16, 8.17.5, and in their canonical form, 8.17.7.
use Rattle.std.specs.Prelude.{◌≡◌, ℕ, Bool, true, false, not, ◌&&◌, List, [], ◌∷◌, ◌++◌, ◌⊎◌, codes, ℤ, pos, ◌+ℤ◌, int_lt, Option, Some, None, is_some, Result, Ok, Err, if◌then◌else◌}
use Rattle.std.specs.Ordering.{int_eq}
use Rattle.std.specs.Fmt.{signed_decimal}
use Rattle.std.specs.Str.{str_eq_ignore_ascii_case}
use Rattle.gx_bytes.specs.declared.error.ValueError.{ValueError}
use Rattle.gx_bytes.specs.declared.error.ValueError.TheVariants.{NoValue, OutOfRange, TooDeep, Memory}
use Rattle.gx_bytes.specs.Days.{printed_day}
use Rattle.gx_range.specs.declared.range.Range.{Range}
use Rattle.gx_range.specs.declared.range.Range.TheVariants.{Empty, Span}
use Rattle.gx_range.specs.declared.range.RangeKind.{RangeKind}
use Rattle.gx_range.specs.declared.range.RangeKind.TheVariants.{Int4, Int8, Date}
use Rattle.gx_range.specs.declared.steps.Form.{Form}
use Rattle.gx_range.specs.Values.{fits, IsRange}
use Rattle.gx_range.specs.Bounds.{IsBound, LeavesBound, far_text, far_day}

-- `empty` in any case
abbrev pub IsEmptyWord : List ℕ → Type 0
IsEmptyWord core = str_eq_ignore_ascii_case core (codes "empty") ≡ true

-- a square bracket takes the bound in, a round one leaves it out
abbrev pub opening : Bool → ℕ
opening closed = if closed then 91 else 40

abbrev pub closing : Bool → ℕ
closing closed = if closed then 93 else 41

-- a bracket, the lower bound, a comma, and the rest
pub record Begins (kind : RangeKind) (core : List ℕ) (closed : Bool) (lower : Option ℤ) (rest : List ℕ) : Type 0 where
  pub bytes : List ℕ
  pub bracket : core ≡ opening closed ∷ bytes
  pub bound : IsBound kind bytes lower (44 ∷ rest)

-- and the upper bound, a bracket, and what follows
pub record IsForm (kind : RangeKind) (core : List ℕ) (form : Form) (after : List ℕ) : Type 0 where
  pub rest : List ℕ
  pub begins : Begins kind core form.lower_closed form.lower rest
  pub bound : IsBound kind rest form.upper (closing form.upper_closed ∷ after)

-- the lower bound is above the upper; the bounds are equal
abbrev pub crosses : Option ℤ → Option ℤ → Bool
crosses (Some l) (Some u) = int_lt u l
crosses _ _ = false

abbrev pub meets : Option ℤ → Option ℤ → Bool
meets (Some l) (Some u) = int_eq l u
meets _ _ = false

-- one more where it is to be raised
abbrev pub raised : Bool → Option ℤ → Option ℤ
raised true (Some n) = Some (n +ℤ pos 1)
raised _ bound = bound

-- the fourth and the fifth step: a bound that leaves the type's range, and a range without elements
abbrev pub between : RangeKind → Option ℤ → Option ℤ → Result Range ValueError
between kind l u =
    if not (fits kind l && fits kind u) then Err OutOfRange
    else if meets l u then Ok Empty
    else Ok (Span l u)

-- the first to the third: bounds that cross, equal bounds of which one is left out, and then the
-- lower bound as the first element, the upper as the first behind the last
abbrev pub steps : RangeKind → Form → Result Range ValueError
steps kind form =
    if crosses form.lower form.upper then Err NoValue
    else if meets form.lower form.upper && not (form.lower_closed && form.upper_closed) then Ok Empty
    else between kind (raised (not form.lower_closed) form.lower) (raised form.upper_closed form.upper)

-- a core spells a range
abbrev pub SpellsRange : RangeKind → List ℕ → Range → Type 0
SpellsRange kind core range =
    (IsEmptyWord core × (range ≡ Empty))
    ⊎ ((form : Form) × IsForm kind core form [] × (steps kind form ≡ Ok range))

-- the first bound that is read leaves the type's range, or the second does
abbrev pub LeavesFirst : RangeKind → List ℕ → Type 0
LeavesFirst kind core =
    (closed : Bool) × (bytes : List ℕ) × (core ≡ opening closed ∷ bytes) × LeavesBound kind bytes

abbrev pub LeavesSecond : RangeKind → List ℕ → Type 0
LeavesSecond kind core =
    (closed : Bool) × (lower : Option ℤ) × (rest : List ℕ) × Begins kind core closed lower rest × LeavesBound kind rest

-- or both are read, and one does by the steps, whatever follows the closing bracket
abbrev pub LeavesRange : RangeKind → List ℕ → Type 0
LeavesRange kind core =
    (LeavesFirst kind core ⊎ LeavesSecond kind core)
    ⊎ ((form : Form) × (after : List ℕ) × IsForm kind core form after × (steps kind form ≡ Err OutOfRange))

-- what each answer of the reader says of the core of the text
abbrev pub AnswersRange : RangeKind → List ℕ → Result Range ValueError → Type 0
AnswersRange kind core (Ok range) = SpellsRange kind core range × IsRange kind range
AnswersRange kind core (Err NoValue) =
    ((range : Range) → SpellsRange kind core range → ⊥) × (LeavesRange kind core → ⊥)
AnswersRange kind core (Err OutOfRange) = LeavesRange kind core
AnswersRange kind core (Err TooDeep) = ⊥
AnswersRange kind core (Err Memory) = ⊥

-- what the refusals of the reader's parts say: of the front of the core, and of the core up to the
-- closing bracket
abbrev pub RefusesBegins : RangeKind → List ℕ → ValueError → Type 0
RefusesBegins kind core NoValue =
    ((closed : Bool) (lower : Option ℤ) (rest : List ℕ) → Begins kind core closed lower rest → ⊥)
    × (LeavesFirst kind core → ⊥)
RefusesBegins kind core OutOfRange = LeavesFirst kind core
RefusesBegins kind core TooDeep = ⊥
RefusesBegins kind core Memory = ⊥

abbrev pub RefusesForm : RangeKind → List ℕ → ValueError → Type 0
RefusesForm kind core NoValue =
    ((form : Form) (after : List ℕ) → IsForm kind core form after → ⊥)
    × (LeavesFirst kind core ⊎ LeavesSecond kind core → ⊥)
RefusesForm kind core OutOfRange = LeavesFirst kind core ⊎ LeavesSecond kind core
RefusesForm kind core TooDeep = ⊥
RefusesForm kind core Memory = ⊥

-- the one printed text of a range of the type
abbrev pub element_text : RangeKind → ℤ → List ℕ
element_text Int4 n = signed_decimal n
element_text Int8 n = signed_decimal n
element_text Date n = if int_eq n far_day then far_text else printed_day n

abbrev pub bound_text : RangeKind → Option ℤ → List ℕ
bound_text kind None = []
bound_text kind (Some n) = element_text kind n

abbrev pub printed : RangeKind → Range → List ℕ
printed kind Empty = codes "empty"
printed kind (Span l u) = opening (is_some l) ∷ (bound_text kind l ++ 44 ∷ (bound_text kind u ++ 41 ∷ []))
