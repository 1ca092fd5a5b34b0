-- Bytes that spell no key.
use Rattle.std.proofs.Common.{◌≡◌, ℕ, Bool, true, false, ◌||◌, List, [], ◌∷◌, Option, Some, None, is_some, sym, true≢false}
use Rattle.gx_class_range.specs.declared.key.Bounds.{Bounds}
use Rattle.gx_class_range.specs.Keys.{span_flags, spelled_with}
use Rattle.gx_class_range.specs.Spellings.{ReadsTo}

none_with : (f : ℕ) (rest : List ℕ) → (f ≡ 1 → rest ≡ [] → ⊥) → ((e l u : Bool) → f ≡ span_flags e l u → ⊥) → (e : Bool) (s : Option Bounds) → (e || is_some s) ≡ true → f ∷ rest ≡ spelled_with e s → ⊥
none_with f rest one none true None some h =
    let first : f ≡ 1 = cc h in
    let behind : rest ≡ [] = cc h in
    one first behind
none_with f rest one none false None some h = true≢false (sym some)
none_with f rest one none e (Some s) some h = let first : f ≡ span_flags e (is_some s.lower) (is_some s.upper) = cc h in none e (is_some s.lower) (is_some s.upper) first

-- where the first byte is that of no key with a span, and the bytes aren't those of the key without one
pub no_flags : (f : ℕ) (rest : List ℕ) → (f ≡ 1 → rest ≡ [] → ⊥) → ((e l u : Bool) → f ≡ span_flags e l u → ⊥) → ReadsTo (f ∷ rest) None
no_flags f rest one none key p h = none_with f rest one none key.empty key.span p.some h
