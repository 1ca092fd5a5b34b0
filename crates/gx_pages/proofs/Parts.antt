-- Parts of bytes, as more bytes are added.
use Rattle.std.proofs.Common.{◌≡◌, ℕ, ◌+◌, ◌-◌, ◌≤◌, List, [], ◌∷◌, ◌++◌, length, take, drop, map, sym, ◌∙◌, ap, arith, length-drop}
use Rattle.std.proofs.lemmas.List.{drop-append-le, take-append-le, drop_at, take_all}
use Rattle.gx_pages.specs.declared.rows.Part.{Part}
use Rattle.gx_pages.specs.Rows.{part_of, LieIn}

pub rows_push : (parts : List Part) (bytes more : List ℕ) (part : Part) → LieIn bytes parts → part.from ≡ length bytes → part.to ≡ length bytes + length more
    → map (part_of (bytes ++ more)) (parts ++ part ∷ []) ≡ map (part_of bytes) parts ++ (part.row, more) ∷ []
rows_push [] bytes more part lie from to =
    let there : take (part.to - part.from) (drop part.from (bytes ++ more)) ≡ more =
    ap (λ (l : List ℕ). take (part.to - part.from) l) (drop_at bytes more part.from (sym from)) ∙ take_all (part.to - part.from) more (omega (arith, from, to)) in
    ap (λ (l : List ℕ). (part.row, l) ∷ []) there
rows_push (p ∷ parts) bytes more part lie from to =
    let within : p.from ≤ length bytes = omega (arith, lie.0.0, lie.0.1) in
    let here : take (p.to - p.from) (drop p.from (bytes ++ more)) ≡ take (p.to - p.from) (drop p.from bytes) =
    ap (λ (l : List ℕ). take (p.to - p.from) l) (drop-append-le p.from bytes more within)
    ∙ take-append-le (p.to - p.from) (drop p.from bytes) more (omega (arith, lie.0.0, lie.0.1, length-drop p.from bytes)) in
    let rest = rows_push parts bytes more part lie.1 from to in
    λ i. (p.row, here i) ∷ rest i
