-- The order of keys that a split may cut: those without a span first, then by where the span begins, by where it ends, and by the flag.
use Rattle.std.specs.Prelude.{Bool, ℤ, pos, Option, Some, None, is_some}
use Rattle.std.specs.Ordering.{int_cmp, bool_cmp, then_cmp, on}
use Rattle.std.specs.Cmp.{IsTotalOrder, bool_cmp_total}
use Rattle.std.specs.declared.cmp.Ordering.{Ordering}
use Rattle.std.proofs.lemmas.Cmp.{int_cmp_total, then_total, on_total}
use Rattle.gx_class_range.specs.declared.key.Bounds.{Bounds}
use Rattle.gx_class_range.specs.declared.key.RangeKey.{RangeKey}
use Rattle.gx_class_range.specs.Keys.{low_at, high_at}

abbrev pub begins_at : Option Bounds → ℤ
begins_at None = pos 0
begins_at (Some s) = low_at s.lower

abbrev pub ends_at : Option Bounds → ℤ
ends_at None = pos 0
ends_at (Some s) = high_at s.upper

abbrev pub key_cmp : RangeKey → RangeKey → Ordering
key_cmp =
    then_cmp (then_cmp (on (λ k. is_some k.span) bool_cmp) (on (λ k. begins_at k.span) int_cmp))
    (then_cmp (on (λ k. ends_at k.span) int_cmp) (on (λ k. k.empty) bool_cmp))

pub key_total : IsTotalOrder key_cmp
key_total =
    then_total (then_total (on_total (λ (k : RangeKey). is_some k.span) bool_cmp_total) (on_total (λ (k : RangeKey). begins_at k.span) int_cmp_total))
    (then_total (on_total (λ (k : RangeKey). ends_at k.span) int_cmp_total) (on_total (λ (k : RangeKey). k.empty) bool_cmp_total))
