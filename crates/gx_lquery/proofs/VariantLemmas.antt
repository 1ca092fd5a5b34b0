-- A label and a variant.
use Rattle.std.proofs.Common.{◌≡◌, ℕ, zero, suc, ◌+◌, ◌<◌, ◌≤◌, ◌⊎◌, Bool, true, false, List, [], ◌∷◌, ◌++◌, length, map, take, drop, IsTrue, ◌↔◌, refl, sym, ap, ◌∙◌, arith, inl, inr, true≢false, take-append-drop, length-append}
use Rattle.std.specs.Char.{to_ascii_lowercase}
use Rattle.gx_lquery.specs.declared.variant.Variant.{Variant}
use Rattle.gx_lquery.specs.Matching.{folded, MatchesVariant}

length-lower : (xs : List ℕ) → length (map to_ascii_lowercase xs) ≡ length xs
length-lower [] = refl
length-lower (x ∷ xs) = ap (λ (n : ℕ). suc n) (length-lower xs)

length-folded : (caseless : Bool) (xs : List ℕ) → length (folded caseless xs) ≡ length xs
length-folded true xs = length-lower xs
length-folded false xs = refl

take-length : (a b : List ℕ) → take (length a) (a ++ b) ≡ a
take-length [] b = refl
take-length (x ∷ a) b = ap (λ (t : List ℕ). x ∷ t) (take-length a b)

no_rest : (n : ℕ) (xs : List ℕ) → length xs ≤ n → drop n xs ≡ []
no_rest zero [] l = refl
no_rest zero (x ∷ xs) l = absurd (omega arith)
no_rest (suc n) [] l = refl
no_rest (suc n) (x ∷ xs) l = no_rest n xs (omega arith)

-- the front decides
pub by_front : (variant : Variant) (label : List ℕ) (r : Bool) → length variant.label ≤ length label → (variant.prefix ≡ false → length label ≡ length variant.label)
    → IsTrue r ↔ (folded variant.caseless (take (length variant.label) label) ≡ folded variant.caseless variant.label) → IsTrue r ↔ MatchesVariant variant label
by_front variant label r long whole same = (
  λ h. record {
    front = take (length variant.label) label;
    rest = drop (length variant.label) label;
    parts = sym (take-append-drop (length variant.label) label);
    same = same.0 h;
    whole = λ p. no_rest (length variant.label) label (omega (arith, whole p));
  },
  λ m. same.1 (
      let size : length m.front ≡ length variant.label = sym (length-folded variant.caseless m.front) ∙ ap length m.same ∙ length-folded variant.caseless variant.label in
      let front : take (length variant.label) label ≡ m.front = ap (λ (n : ℕ). take n label) (sym size) ∙ ap (λ (t : List ℕ). take (length m.front) t) m.parts ∙ take-length m.front m.rest in
      ap (folded variant.caseless) front ∙ m.same),
)

-- a label of the wrong length
pub wrong_length : (variant : Variant) (label : List ℕ) → (length label < length variant.label) ⊎ ((variant.prefix ≡ false) × (length label ≡ length variant.label → ⊥)) → MatchesVariant variant label → ⊥
wrong_length variant label bad m =
    let size : length m.front ≡ length variant.label = sym (length-folded variant.caseless m.front) ∙ ap length m.same ∙ length-folded variant.caseless variant.label in
    let all : length label ≡ length m.front + length m.rest = ap length m.parts ∙ length-append m.front m.rest in
    elim bad [ inl short ↦ omega arith | inr other ↦ other.1 (omega (arith, ap length (m.whole other.0))) ]

pub whole_by : (prefix : Bool) (m n : ℕ) → ((prefix ≡ false) × (m ≡ n)) ⊎ (prefix ≡ true) → prefix ≡ false → m ≡ n
whole_by prefix m n (inl p) e = p.1
whole_by prefix m n (inr p) e = absurd (true≢false (sym p ∙ e))
