-- The tests of keys.
use Rattle.std.specs.Prelude.{ℕ, Bool, true, false, ◌&&◌, ◌||◌, ℤ, int_le, int_lt, Option, Some, None, is_some, if◌then◌else◌}
use Rattle.gx_gist.specs.declared.test.Test.{Test}
use Rattle.gx_gist.specs.declared.test.Test.TheVariants.{No, Maybe, Yes}
use Rattle.gx_bytes.specs.Wholes.{IsWithin}
use Rattle.gx_range.specs.declared.range.Range.{Range}
use Rattle.gx_range.specs.declared.range.Range.TheVariants.{Empty, Span}
use Rattle.gx_range.specs.declared.range.RangeKind.TheVariants.{Int8}
use Rattle.gx_range.specs.declared.range.RangeOp.{RangeOp}
use Rattle.gx_range.specs.declared.range.RangeOp.TheVariants.{Equal, Overlaps, Contains, Within, Left, Right, NotRight, NotLeft, Adjacent}
use Rattle.gx_range.specs.Values.{IsRange, least, greatest}
use Rattle.gx_range.specs.Operators.{Holds, HasElement}
use Rattle.gx_range.specs.Decisions.{holds, has_element}
use Rattle.gx_class_range.specs.declared.key.Bounds.{Bounds}
use Rattle.gx_class_range.specs.declared.key.RangeKey.{RangeKey}
use Rattle.gx_class_range.specs.declared.query.RangeQuery.{RangeQuery}
use Rattle.gx_class_range.specs.declared.query.RangeQuery.TheVariants as queries
use Rattle.gx_class_range.specs.Keys.{low_at, high_at}

-- a valid query, and that it holds of a range
abbrev pub IsQuery : RangeQuery → Type 0
IsQuery (queries.Range op operand) = IsRange Int8 operand
IsQuery (queries.Element n) = IsWithin (least Int8) (greatest Int8) n

abbrev pub QueryHolds : Range → RangeQuery → Type 0
QueryHolds range (queries.Range op operand) = Holds op range operand
QueryHolds range (queries.Element n) = HasElement range n

-- the range of which this is the key
abbrev pub range_of : Option Bounds → Range
range_of None = Empty
range_of (Some s) = Span s.lower s.upper

abbrev pub leaf_holds : Range → RangeQuery → Bool
leaf_holds range (queries.Range op operand) = holds op range operand
leaf_holds range (queries.Element n) = has_element range n

-- of the key of one range
abbrev pub leaf_answer : RangeKey → RangeQuery → Test
leaf_answer k q = if leaf_holds (range_of k.span) q then Yes else No

-- a span contains another, overlaps it, has its lower or its upper bound within or at its end
abbrev pub contains : Bounds → Option ℤ → Option ℤ → Bool
contains s l u = int_le (low_at s.lower) (low_at l) && int_le (high_at u) (high_at s.upper)

abbrev pub overlaps : Bounds → Option ℤ → Option ℤ → Bool
overlaps s l u = int_lt (low_at s.lower) (high_at u) && int_lt (low_at l) (high_at s.upper)

abbrev pub reaches_lower : Bounds → Option ℤ → Bool
reaches_lower s l = is_some l && (int_lt (low_at s.lower) (low_at l) && int_le (low_at l) (high_at s.upper))

abbrev pub reaches_upper : Bounds → Option ℤ → Bool
reaches_upper s u = is_some u && (int_le (low_at s.lower) (high_at u) && int_lt (high_at u) (high_at s.upper))

-- an operator with the operand [l, u) may hold of a range within the span
abbrev pub span_may : RangeOp → Bounds → Option ℤ → Option ℤ → Bool
span_may Equal s l u = contains s l u
span_may Overlaps s l u = overlaps s l u
span_may Contains s l u = contains s l u
span_may Within s l u = overlaps s l u
span_may Left s l u = int_lt (low_at s.lower) (low_at l)
span_may Right s l u = int_lt (high_at u) (high_at s.upper)
span_may NotRight s l u = int_lt (low_at s.lower) (high_at u)
span_may NotLeft s l u = int_lt (low_at l) (high_at s.upper)
span_may Adjacent s l u = reaches_lower s l || reaches_upper s u

abbrev pub some_may : RangeOp → Option Bounds → Option ℤ → Option ℤ → Bool
some_may op None l u = false
some_may op (Some s) l u = span_may op s l u

-- it may hold of an empty range, where one is below
abbrev pub flag_may : RangeOp → Bool → Bool
flag_may Within empty = empty
flag_may op empty = false

-- the same with the empty range as the operand
abbrev pub empty_may : RangeOp → Bool → Bool
empty_may Equal empty = empty
empty_may Contains empty = true
empty_may Within empty = empty
empty_may op empty = false

abbrev pub key_may : RangeOp → RangeKey → Range → Bool
key_may op k Empty = empty_may op k.empty
key_may op k (Span l u) = flag_may op k.empty || some_may op k.span l u

abbrev pub has : Option Bounds → ℤ → Bool
has None n = false
has (Some s) n = int_le (low_at s.lower) n && int_lt n (high_at s.upper)

abbrev pub query_may : RangeKey → RangeQuery → Bool
query_may k (queries.Range op operand) = key_may op k operand
query_may k (queries.Element n) = has k.span n

-- of the key of many
abbrev pub inner_answer : RangeKey → RangeQuery → Test
inner_answer k q = if query_may k q then Maybe else No
