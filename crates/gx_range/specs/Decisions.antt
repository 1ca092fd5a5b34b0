-- Decisions of the operators on ranges: each is true exactly where the operator's relation holds.
use Rattle.std.specs.Prelude.{Bool, true, false, not, ◌&&◌, ◌||◌, ℤ, int_le, Option, Some, None}
use Rattle.std.specs.Ordering.{int_eq}
use Rattle.gx_range.specs.declared.range.Range.{Range}
use Rattle.gx_range.specs.declared.range.Range.TheVariants.{Empty, Span}
use Rattle.gx_range.specs.declared.range.RangeOp.{RangeOp}
use Rattle.gx_range.specs.declared.range.RangeOp.TheVariants.{Equal, Overlaps, Contains, Within, Left, Right, NotRight, NotLeft, Adjacent}
use Rattle.gx_range.specs.Operators.{Place, Below, At, Above, lower_place, upper_place}

abbrev pub is_at_most : Place → Place → Bool
is_at_most Below q = true
is_at_most (At m) (At n) = int_le m n
is_at_most (At m) Above = true
is_at_most Above Above = true
is_at_most _ _ = false

abbrev pub is_before : Place → Place → Bool
is_before p q = not (is_at_most q p)

abbrev pub ends_by : Option ℤ → Option ℤ → Bool
ends_by (Some u) (Some l) = int_le u l
ends_by _ _ = false

abbrev pub ends_at : Option ℤ → Option ℤ → Bool
ends_at (Some u) (Some l) = int_eq u l
ends_at _ _ = false

abbrev pub is_same : Option ℤ → Option ℤ → Bool
is_same None None = true
is_same (Some m) (Some n) = int_eq m n
is_same _ _ = false

-- of the spans [l, u) and [m, v)
abbrev pub holds_of_spans : RangeOp → Option ℤ → Option ℤ → Option ℤ → Option ℤ → Bool
holds_of_spans Equal l u m v = is_same l m && is_same u v
holds_of_spans Overlaps l u m v =
    is_before (lower_place l) (upper_place u) && (is_before (lower_place l) (upper_place v)
    && (is_before (lower_place m) (upper_place u) && is_before (lower_place m) (upper_place v)))
holds_of_spans Contains l u m v =
    is_at_most (lower_place l) (lower_place m) && is_at_most (upper_place v) (upper_place u)
holds_of_spans Within l u m v =
    is_at_most (lower_place m) (lower_place l) && is_at_most (upper_place u) (upper_place v)
holds_of_spans Left l u m v = ends_by u m
holds_of_spans Right l u m v = ends_by v l
holds_of_spans NotRight l u m v = is_at_most (upper_place u) (upper_place v)
holds_of_spans NotLeft l u m v = is_at_most (lower_place m) (lower_place l)
holds_of_spans Adjacent l u m v = ends_at u m || ends_at v l

-- of two ranges
unfoldable pub holds : RangeOp → Range → Range → Bool
holds op (Span l u) (Span m v) = holds_of_spans op l u m v
holds Equal Empty Empty = true
holds Contains a Empty = true
holds Within Empty b = true
holds _ _ _ = false

-- of a range and an element
unfoldable pub has_element : Range → ℤ → Bool
has_element Empty n = false
has_element (Span l u) n = is_at_most (lower_place l) (At n) && is_before (At n) (upper_place u)
