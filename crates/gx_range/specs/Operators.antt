-- The operators on ranges: PostgreSQL 16, 9.20.
use Rattle.std.specs.Prelude.{◌≡◌, ℤ, ◌≤ℤ◌, ◌⊎◌, Option, Some, None}
use Rattle.gx_range.specs.declared.range.Range.{Range}
use Rattle.gx_range.specs.declared.range.Range.TheVariants.{Empty, Span}
use Rattle.gx_range.specs.declared.range.RangeOp.{RangeOp}
use Rattle.gx_range.specs.declared.range.RangeOp.TheVariants.{Equal, Overlaps, Contains, Within, Left, Right, NotRight, NotLeft, Adjacent}

-- a number, or what is below or above all numbers
pub data Place : Type 0 where
  Below : Place
  At : ℤ → Place
  Above : Place

abbrev pub IsAtMost : Place → Place → Type 0
IsAtMost Below q = Unit {0}
IsAtMost (At m) Below = ⊥
IsAtMost (At m) (At n) = m ≤ℤ n
IsAtMost (At m) Above = Unit {0}
IsAtMost Above Below = ⊥
IsAtMost Above (At n) = ⊥
IsAtMost Above Above = Unit {0}

abbrev pub IsBefore : Place → Place → Type 0
IsBefore p q = IsAtMost q p → ⊥

-- where a range without that bound begins and ends
abbrev pub lower_place : Option ℤ → Place
lower_place None = Below
lower_place (Some n) = At n

abbrev pub upper_place : Option ℤ → Place
upper_place None = Above
upper_place (Some n) = At n

-- an upper bound is there and is at most a lower bound that is there; and it is equal
abbrev pub EndsBy : Option ℤ → Option ℤ → Type 0
EndsBy (Some u) (Some l) = u ≤ℤ l
EndsBy _ _ = ⊥

abbrev pub EndsAt : Option ℤ → Option ℤ → Type 0
EndsAt (Some u) (Some l) = u ≡ l
EndsAt _ _ = ⊥

-- of the spans [l, u) and [m, v)
abbrev pub HoldsOfSpans : RangeOp → Option ℤ → Option ℤ → Option ℤ → Option ℤ → Type 0
HoldsOfSpans Equal l u m v = (l ≡ m) × (u ≡ v)
HoldsOfSpans Overlaps l u m v =
    IsBefore (lower_place l) (upper_place u) × IsBefore (lower_place l) (upper_place v)
    × IsBefore (lower_place m) (upper_place u) × IsBefore (lower_place m) (upper_place v)
HoldsOfSpans Contains l u m v =
    IsAtMost (lower_place l) (lower_place m) × IsAtMost (upper_place v) (upper_place u)
HoldsOfSpans Within l u m v =
    IsAtMost (lower_place m) (lower_place l) × IsAtMost (upper_place u) (upper_place v)
HoldsOfSpans Left l u m v = EndsBy u m
HoldsOfSpans Right l u m v = EndsBy v l
HoldsOfSpans NotRight l u m v = IsAtMost (upper_place u) (upper_place v)
HoldsOfSpans NotLeft l u m v = IsAtMost (lower_place m) (lower_place l)
HoldsOfSpans Adjacent l u m v = EndsAt u m ⊎ EndsAt v l

-- the operator holds of the two ranges; each range contains the empty range
abbrev pub Holds : RangeOp → Range → Range → Type 0
Holds op (Span l u) (Span m v) = HoldsOfSpans op l u m v
Holds Equal Empty Empty = Unit {0}
Holds Contains a Empty = Unit {0}
Holds Within Empty b = Unit {0}
Holds _ _ _ = ⊥

-- the range has the element
abbrev pub HasElement : Range → ℤ → Type 0
HasElement Empty n = ⊥
HasElement (Span l u) n = IsAtMost (lower_place l) (At n) × IsBefore (At n) (upper_place u)
