-- How much a key grows where another is united with it.
use Rattle.std.specs.Prelude.{ℕ, ◌+◌, ◌-◌, ◌&&◌, not, ◌-ℤ◌, unsigned_abs, Option, Some, None, if◌then◌else◌}
use Rattle.gx_class_range.specs.declared.key.Bounds.{Bounds}
use Rattle.gx_class_range.specs.declared.key.RangeKey.{RangeKey}
use Rattle.gx_class_range.specs.Keys.{low_at, high_at, hull}

-- how long a span is; one without a bound counts up to 2^64 there
abbrev pub length_of : Option Bounds → ℕ
length_of None = 0
length_of (Some s) = unsigned_abs (high_at s.upper -ℤ low_at s.lower)

-- how much longer the span becomes, and 1 where the flag is new
abbrev pub growth : RangeKey → RangeKey → ℕ
growth k added = (length_of (hull k.span added.span) - length_of k.span) + (if added.empty && not k.empty then 1 else 0)
