-- A word at the front of a text is one, and is told apart from white space and signs.
use Rattle.std.specs.Prelude.{◌≡◌, ◌==◌, ℕ, ◌<◌, true, false, List, [], ◌∷◌, ◌++◌, length, None, refl}
use Rattle.std.specs.List.{AllByRecursion, list_any}
use Rattle.std.specs.Char.{is_ascii_whitespace}
use Rattle.std.proofs.Common.{sym, ap, ap₂, ◌∙◌, subst, arith, true≢false, inl, inr, length-append}
use Rattle.std.proofs.lemmas.Bool.{cases_Bool}
use Rattle.std.proofs.lemmas.Bool.Decides.{nat_tests}
use Rattle.gx_ltree.specs.Label.{is_label_byte, IsLabelByte}
use Rattle.gx_ltree.proofs.LabelLemmas.{one_label}
use Rattle.gx_lquery.specs.declared.variant.Variant.{Variant}
use Rattle.gx_lquery.specs.Text.{is_mark}
use Rattle.gx_formula.specs.Tokens.{sign_of, StartsWord, AreWords}
use Rattle.gx_ltxtquery.specs.Words.{StopsMarks, TakesWord}

abbrev AreMarks : List ℕ → Type 0
AreMarks marks = AllByRecursion (λ c. is_mark c ≡ true) marks

one_marks : (a b x y : List ℕ) → AreMarks a → AreMarks b → StopsMarks x → StopsMarks y → a ++ x ≡ b ++ y → (a ≡ b) × (x ≡ y)
one_marks [] [] x y p q s t e = (refl, e)
one_marks [] (b ∷ bs) x y p q s t e = absurd (true≢false (sym q.0 ∙ subst StopsMarks e s))
one_marks (a ∷ front) [] x y p q s t e = absurd (true≢false (sym p.0 ∙ subst StopsMarks (sym e) t))
one_marks (a ∷ front) (b ∷ bs) x y p q s t e =
    let head : a ≡ b = cc in
    let tail : front ++ x ≡ bs ++ y = cc in
    let rest = one_marks front bs x y p.1 q.1 s t tail in
    (ap₂ (λ (c : ℕ) (cs : List ℕ). c ∷ cs) head rest.0, rest.1)

one_word : (text : List ℕ) (v w : Variant) (x y : List ℕ) → TakesWord text v x → TakesWord text w y → (v ≡ w) × (x ≡ y)
one_word text v w x y s t =
    let label = one_label text v.label w.label (s.marks ++ x) (t.marks ++ y) s.label t.label in
    let marks = one_marks s.marks t.marks x y s.each t.each s.stops t.stops label.1 in
    let prefix : v.prefix ≡ w.prefix = s.prefix ∙ ap (list_any (λ c. c == 42)) marks.0 ∙ sym t.prefix in
    let caseless : v.caseless ≡ w.caseless = s.caseless ∙ ap (list_any (λ c. c == 64)) marks.0 ∙ sym t.caseless in
    (λ i. record { label = label.0 i; prefix = prefix i; caseless = caseless i }, marks.1)

-- what stands behind a word is shorter
length-word : (text rest : List ℕ) (v : Variant) → TakesWord text v rest → length rest < length text
length-word text rest v t =
    let some = t.label.is_label.some in
    omega (arith, ap length t.label.parts, length-append v.label (t.marks ++ rest), length-append t.marks rest)

-- a byte of a label is none of these
other_byte : (c k : ℕ) → is_label_byte c ≡ true → is_label_byte k ≡ false → (c == k) ≡ false
other_byte c k label none = elim (cases_Bool (c == k)) [
  | inl is ↦ absurd (let same : c ≡ k = grind (arith, nat_tests) in true≢false (sym label ∙ ap is_label_byte same ∙ none))
  | inr other ↦ other
]

label_starts : (c : ℕ) → is_label_byte c ≡ true → (is_ascii_whitespace c ≡ false) × (sign_of c ≡ None)
label_starts c label =
    let o : (k : ℕ) → is_label_byte k ≡ false → (c == k) ≡ false = λ k none. other_byte c k label none in
    let white : is_ascii_whitespace c ≡ false = grind (arith, nat_tests, label) in
    (white, rw (o 33 refl, o 38 refl, o 124 refl, o 40 refl, o 41 refl) refl)

word_starts : (text : List ℕ) (v : Variant) (rest : List ℕ) → TakesWord text v rest → StartsWord text
word_starts text v rest t = go v.label t.label.is_label.some t.label.is_label.bytes t.label.parts
  where
    go : (label : List ℕ) → 0 < length label → AllByRecursion IsLabelByte label → text ≡ label ++ (t.marks ++ rest) → StartsWord text
    go [] some each parts = absurd (omega (arith, some))
    go (c ∷ label) some each parts = subst StartsWord (sym parts) (label_starts c each.0)

pub words_are : AreWords TakesWord (λ _. ⊥)
words_are = record {
  one = one_word;
  near = λ text w rest t f. f;
  starts = word_starts;
  far_starts = λ text f. absurd f;
  shorter = λ text w rest t. length-word text rest w t;
}
