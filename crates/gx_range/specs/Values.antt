-- Which ranges are valid.
use Rattle.std.specs.Prelude.{◌≡◌, ◌-◌, ◌^◌, Bool, true, ◌&&◌, ℤ, pos, neg_ℤ, int_le, int_lt, Option, Some, None}
use Rattle.gx_range.specs.declared.range.Range.{Range}
use Rattle.gx_range.specs.declared.range.Range.TheVariants.{Empty, Span}
use Rattle.gx_range.specs.declared.range.RangeKind.{RangeKind}
use Rattle.gx_range.specs.declared.range.RangeKind.TheVariants.{Int4, Int8, Date}

-- the least and the greatest bound: of daterange the days 0001-01-01 and 10000-01-01
abbrev pub least : RangeKind → ℤ
least Int4 = neg_ℤ (pos (2 ^ 31))
least Int8 = neg_ℤ (pos (2 ^ 63))
least Date = neg_ℤ (pos 719_162)

abbrev pub greatest : RangeKind → ℤ
greatest Int4 = pos (2 ^ 31 - 1)
greatest Int8 = pos (2 ^ 63 - 1)
greatest Date = pos 2_932_897

-- there is no bound, or it lies between these
abbrev pub fits : RangeKind → Option ℤ → Bool
fits kind None = true
fits kind (Some n) = int_le (least kind) n && int_le n (greatest kind)

-- both bounds are there, and the lower is below the upper
abbrev pub rises : Option ℤ → Option ℤ → Bool
rises (Some l) (Some u) = int_lt l u
rises _ _ = true

-- a valid range of the type
abbrev pub IsRange : RangeKind → Range → Type 0
IsRange kind Empty = Unit {0}
IsRange kind (Span l u) = (fits kind l ≡ true) × (fits kind u ≡ true) × (rises l u ≡ true)
