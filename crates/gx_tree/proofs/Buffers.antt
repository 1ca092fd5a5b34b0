-- Items in one buffer, as more are added.
use Rattle.std.proofs.Common.{◌≡◌, ℕ, ◌+◌, ◌-◌, ◌≤◌, List, [], ◌∷◌, ◌++◌, length, take, drop, map, sym, ◌∙◌, ap, arith, length-drop}
use Rattle.std.proofs.lemmas.List.{drop-append-le, take-append-le, drop_at, take_all}
use Rattle.gx_tree.specs.declared.items.Span.{Span}
use Rattle.gx_tree.specs.Spans.{span_of, LieIn}

pub items_push : (spans : List Span) (bytes more : List ℕ) (span : Span) → LieIn bytes spans → span.from ≡ length bytes → span.to ≡ length bytes + length more
    → map (span_of (bytes ++ more)) (spans ++ span ∷ []) ≡ map (span_of bytes) spans ++ more ∷ []
items_push [] bytes more span lie from to =
    let there : take (span.to - span.from) (drop span.from (bytes ++ more)) ≡ more =
    ap (λ (l : List ℕ). take (span.to - span.from) l) (drop_at bytes more span.from (sym from)) ∙ take_all (span.to - span.from) more (omega (arith, from, to)) in
    ap (λ (l : List ℕ). l ∷ []) there
items_push (p ∷ spans) bytes more span lie from to =
    let within : p.from ≤ length bytes = omega (arith, lie.0.0, lie.0.1) in
    let here : take (p.to - p.from) (drop p.from (bytes ++ more)) ≡ take (p.to - p.from) (drop p.from bytes) =
    ap (λ (l : List ℕ). take (p.to - p.from) l) (drop-append-le p.from bytes more within)
    ∙ take-append-le (p.to - p.from) (drop p.from bytes) more (omega (arith, lie.0.0, lie.0.1, length-drop p.from bytes)) in
    let rest = items_push spans bytes more span lie.1 from to in
    λ i. here i ∷ rest i
