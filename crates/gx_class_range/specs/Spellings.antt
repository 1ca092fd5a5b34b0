-- A key has one spelling.
use Rattle.std.specs.Prelude.{◌≡◌, ◌≢◌, ℕ, ◌+◌, ◌/◌, ◌%◌, ◌<◌, ◌≤◌, Bool, true, false, ◌||◌, nat_eq, List, [], ◌∷◌, ◌++◌, length, ℤ, Option, Some, None, is_some, refl}
use Rattle.std.proofs.Common.{sym, ap, ap₂, ◌∙◌, arith, true≢false}
use Rattle.gx_range.specs.declared.range.Range.TheVariants.{Span}
use Rattle.gx_range.specs.Encodings.{flags, bound_bytes, encoded}
use Rattle.gx_range.proofs.EncodingLemmas.{same_spans}
use Rattle.gx_class_range.specs.declared.key.Bounds.{Bounds}
use Rattle.gx_class_range.specs.declared.key.RangeKey.{RangeKey}
use Rattle.gx_class_range.specs.Keys.{IsSpan, IsKey, flag, span_flags, spelled_with, spelled}

-- the valid key with these bytes, or none where they spell no key
abbrev pub ReadsTo : List ℕ → Option RangeKey → Type 0
ReadsTo bytes None = (key : RangeKey) → IsKey key → bytes ≢ spelled key
ReadsTo bytes (Some key) = IsKey key × (bytes ≡ spelled key)

empty_flag : (e l u : Bool) → nat_eq (span_flags e l u % 2) 1 ≡ e
empty_flag true true true = refl
empty_flag true true false = refl
empty_flag true false true = refl
empty_flag true false false = refl
empty_flag false true true = refl
empty_flag false true false = refl
empty_flag false false true = refl
empty_flag false false false = refl

lower_flag : (e l u : Bool) → nat_eq (span_flags e l u / 4 % 2) 1 ≡ l
lower_flag true true true = refl
lower_flag true true false = refl
lower_flag true false true = refl
lower_flag true false false = refl
lower_flag false true true = refl
lower_flag false true false = refl
lower_flag false false true = refl
lower_flag false false false = refl

upper_flag : (e l u : Bool) → nat_eq (span_flags e l u / 8) 1 ≡ u
upper_flag true true true = refl
upper_flag true true false = refl
upper_flag true false true = refl
upper_flag true false false = refl
upper_flag false true true = refl
upper_flag false true false = refl
upper_flag false false true = refl
upper_flag false false false = refl

pub flags_same : (e l u f m v : Bool) → span_flags e l u ≡ span_flags f m v → (e ≡ f) × (l ≡ m) × (u ≡ v)
flags_same e l u f m v h = (
  sym (empty_flag e l u) ∙ ap (λ n. nat_eq (n % 2) 1) h ∙ empty_flag f m v,
  sym (lower_flag e l u) ∙ ap (λ n. nat_eq (n / 4 % 2) 1) h ∙ lower_flag f m v,
  sym (upper_flag e l u) ∙ ap (λ n. nat_eq (n / 8) 1) h ∙ upper_flag f m v,
)

-- a first byte without a span is below one with it
pub no_span_flag : (e f l u : Bool) → flag 1 e ≡ span_flags f l u → ⊥
no_span_flag true f l u h = omega (arith, h)
no_span_flag false f l u h = omega (arith, h)

pub one_tail : (l u m w : Option ℤ) → IsSpan (Some (record { lower = l; upper = u })) → IsSpan (Some (record { lower = m; upper = w })) → is_some l ≡ is_some m → is_some u ≡ is_some w
    → bound_bytes l ++ bound_bytes u ≡ bound_bytes m ++ bound_bytes w → (l ≡ m) × (u ≡ w)
one_tail l u m w p q a b tail = same_spans l u m w p.0 p.1 q.0 q.1 (ap₂ (λ (n : ℕ) (t : List ℕ). n ∷ t) (ap₂ flags a b) tail)

same_bounds : (s t : Bounds) → s.lower ≡ t.lower → s.upper ≡ t.upper → s ≡ t
same_bounds s t p q = λ i. record { lower = p i; upper = q i }

must : (e : Bool) → (e || false) ≡ true → e ≡ true
must true h = refl
must false h = h

one_of : (e f : Bool) (s t : Option Bounds) → (e || is_some s) ≡ true → (f || is_some t) ≡ true → IsSpan s → IsSpan t → spelled_with e s ≡ spelled_with f t → (e ≡ f) × (s ≡ t)
one_of e f None None a b p q h = (must e a ∙ sym (must f b), refl)
one_of e f None (Some t) a b p q h = let head : flag 1 e ≡ span_flags f (is_some t.lower) (is_some t.upper) = cc h in absurd (no_span_flag e f (is_some t.lower) (is_some t.upper) head)
one_of e f (Some s) None a b p q h = let head : flag 1 f ≡ span_flags e (is_some s.lower) (is_some s.upper) = cc h in absurd (no_span_flag f e (is_some s.lower) (is_some s.upper) head)
one_of e f (Some s) (Some t) a b p q h =
    let head : span_flags e (is_some s.lower) (is_some s.upper) ≡ span_flags f (is_some t.lower) (is_some t.upper) = cc h in
    let tail : bound_bytes s.lower ++ bound_bytes s.upper ≡ bound_bytes t.lower ++ bound_bytes t.upper = cc h in
    let same = flags_same e (is_some s.lower) (is_some s.upper) f (is_some t.lower) (is_some t.upper) head in
    let ends = one_tail s.lower s.upper t.lower t.upper p q same.1 same.2 tail in
    (same.0, ap Some (same_bounds s t ends.0 ends.1))

pub one_spelling : (a b : RangeKey) → IsKey a → IsKey b → spelled a ≡ spelled b → a ≡ b
one_spelling a b p q h =
    let same = one_of a.empty b.empty a.span b.span p.some q.some p.span q.span h in
    λ i. record { empty = same.0 i; span = same.1 i }

short_bounds : (l u : Option ℤ) → length (bound_bytes l ++ bound_bytes u) ≤ 16
short_bounds None None = omega arith
short_bounds None (Some u) = omega arith
short_bounds (Some l) None = omega arith
short_bounds (Some l) (Some u) = omega arith

short_with : (e : Bool) (s : Option Bounds) → length (spelled_with e s) ≤ 1900
short_with e None = omega arith
short_with e (Some s) = let few = short_bounds s.lower s.upper in omega arith

pub short_spelling : (k : RangeKey) → length (spelled k) ≤ 1900
short_spelling k = short_with k.empty k.span
