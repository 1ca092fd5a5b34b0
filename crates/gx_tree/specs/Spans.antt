-- Items in one buffer.
use Rattle.std.specs.Prelude.{ℕ, ◌-◌, ◌≤◌, List, length, take, drop}
use Rattle.std.specs.List.{AllByRecursion}
use Rattle.gx_tree.specs.declared.items.Span.{Span}

-- the bytes of an item
abbrev pub span_of : List ℕ → Span → List ℕ
span_of bytes span = take (span.to - span.from) (drop span.from bytes)

-- each item lies in the bytes
abbrev pub LieIn : List ℕ → List Span → Type 0
LieIn bytes spans = AllByRecursion (λ span. (span.from ≤ span.to) × (span.to ≤ length bytes)) spans
