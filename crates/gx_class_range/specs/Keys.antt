-- Keys: whether an empty range is below an item, and the least span over the other ranges below it.
use Rattle.std.specs.Prelude.{◌≡◌, ℕ, ◌+◌, ◌^◌, Bool, true, false, ◌||◌, List, [], ◌∷◌, ◌++◌, ℤ, pos, neg_ℤ, int_le, ◌≤ℤ◌, Option, Some, None, is_some, if◌then◌else◌}
use Rattle.gx_range.specs.declared.range.Range.{Range}
use Rattle.gx_range.specs.declared.range.Range.TheVariants.{Empty, Span}
use Rattle.gx_range.specs.declared.range.RangeKind.TheVariants.{Int8}
use Rattle.gx_range.specs.Values.{IsRange}
use Rattle.gx_range.specs.Encodings.{bound_bytes}
use Rattle.gx_class_range.specs.declared.key.Bounds.{Bounds}
use Rattle.gx_class_range.specs.declared.key.RangeKey.{RangeKey}

-- where a span begins and ends: without a bound beyond all numbers of 64 bits
abbrev pub low_at : Option ℤ → ℤ
low_at None = neg_ℤ (pos (2 ^ 64))
low_at (Some n) = n

abbrev pub high_at : Option ℤ → ℤ
high_at None = pos (2 ^ 64)
high_at (Some n) = n

-- a valid key: an empty range or a span is there, and the span isn't empty
abbrev pub IsSpan : Option Bounds → Type 0
IsSpan None = Unit {0}
IsSpan (Some s) = IsRange Int8 (Span s.lower s.upper)

pub record IsKey (k : RangeKey) : Type 0 where
  pub some : (k.empty || is_some k.span) ≡ true
  pub span : IsSpan k.span

-- the key of one range
abbrev pub leaf_key : Range → RangeKey
leaf_key Empty = record { empty = true; span = None }
leaf_key (Span l u) = record { empty = false; span = Some (record { lower = l; upper = u }) }

-- the least span over two
abbrev pub lower_of : Option ℤ → Option ℤ → Option ℤ
lower_of a b = if int_le (low_at a) (low_at b) then a else b

abbrev pub upper_of : Option ℤ → Option ℤ → Option ℤ
upper_of a b = if int_le (high_at b) (high_at a) then a else b

abbrev pub hull : Option Bounds → Option Bounds → Option Bounds
hull None t = t
hull (Some s) None = Some s
hull (Some s) (Some t) = Some (record { lower = lower_of s.lower t.lower; upper = upper_of s.upper t.upper })

-- the key of all that both keys stand for
abbrev pub joined : RangeKey → RangeKey → RangeKey
joined a b = record { empty = a.empty || b.empty; span = hull a.span b.span }

-- a key reaches at least as far as another
abbrev pub Covers : Option Bounds → Option Bounds → Type 0
Covers s None = Unit {0}
Covers None (Some t) = ⊥
Covers (Some s) (Some t) = (low_at s.lower ≤ℤ low_at t.lower) × (high_at t.upper ≤ℤ high_at s.upper)

abbrev pub IsOver : RangeKey → RangeKey → Type 0
IsOver k l = (l.empty ≡ true → k.empty ≡ true) × Covers k.span l.span

-- the first byte: 1 where an empty range is below, 2 where a span is there, 4 and 8 for its lower and its upper bound
abbrev pub flag : ℕ → Bool → ℕ
flag n there = if there then n else 0

abbrev pub span_flags : Bool → Bool → Bool → ℕ
span_flags empty lower upper = flag 1 empty + (2 + (flag 4 lower + flag 8 upper))

-- the bytes of a key: the first byte, then the bounds that are there
abbrev pub spelled_with : Bool → Option Bounds → List ℕ
spelled_with empty None = flag 1 empty ∷ []
spelled_with empty (Some s) = span_flags empty (is_some s.lower) (is_some s.upper) ∷ (bound_bytes s.lower ++ bound_bytes s.upper)

abbrev pub spelled : RangeKey → List ℕ
spelled k = spelled_with k.empty k.span
