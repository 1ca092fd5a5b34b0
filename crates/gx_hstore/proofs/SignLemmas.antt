-- Signs up to the byte that ends them: one reading, and its steps.
use Rattle.std.proofs.Common.{◌≡◌, ℕ, ◌<◌, Bool, true, false, inl, inr, List, [], ◌∷◌, ◌++◌, length, refl, sym, ap, ap₂, ◌∙◌, subst, true≢false, arith}
use Rattle.gx_hstore.specs.Text.{Sign, Plain, Escaped, written, meant, ends, AreInside, Stops, TakesSigns, TakesString}
use Rattle.gx_hstore.specs.Steps.{TakesSign}

-- a backslash ends no signs
no_end : (quoted : Bool) → ends quoted 92 ≡ false
no_end true = refl
no_end false = refl

not_both : (quoted : Bool) (c : ℕ) → ends quoted c ≡ true → ends quoted c ≡ false → ⊥
not_both quoted c e f = true≢false (sym e ∙ f)

-- what stops begins with no byte inside, and with no backslash
stops_first : (quoted : Bool) (rest : List ℕ) (c : ℕ) (more : List ℕ) → Stops quoted rest → rest ≡ c ∷ more → ends quoted c ≡ true
stops_first quoted rest c more s e = subst (Stops quoted) e s

pub one_reading : (quoted : Bool) (xs ys : List Sign) (r s : List ℕ) → AreInside quoted xs → AreInside quoted ys → Stops quoted r → Stops quoted s → written xs ++ r ≡ written ys ++ s → (meant xs ≡ meant ys) × (r ≡ s)
one_reading q [] [] r s i j m n e = (refl, e)
one_reading q [] (Plain c ∷ ys) r s i j m n e = absurd (not_both q c (stops_first q r c (written ys ++ s) m e) j.0)
one_reading q [] (Escaped c ∷ ys) r s i j m n e = absurd (not_both q 92 (stops_first q r 92 (c ∷ written ys ++ s) m e) (no_end q))
one_reading q (Plain c ∷ xs) [] r s i j m n e = absurd (not_both q c (stops_first q s c (written xs ++ r) n (sym e)) i.0)
one_reading q (Escaped c ∷ xs) [] r s i j m n e = absurd (not_both q 92 (stops_first q s 92 (c ∷ written xs ++ r) n (sym e)) (no_end q))
one_reading q (Plain c ∷ xs) (Plain d ∷ ys) r s i j m n e =
    let head : c ≡ d = cc in
    let tail : written xs ++ r ≡ written ys ++ s = cc in
    let rest = one_reading q xs ys r s i.2 j.2 m n tail in
    (ap₂ (λ (b : ℕ) (bs : List ℕ). b ∷ bs) head rest.0, rest.1)
one_reading q (Plain c ∷ xs) (Escaped d ∷ ys) r s i j m n e = let head : c ≡ 92 = cc in absurd (i.1 head)
one_reading q (Escaped c ∷ xs) (Plain d ∷ ys) r s i j m n e = let head : d ≡ 92 = cc in absurd (j.1 head)
one_reading q (Escaped c ∷ xs) (Escaped d ∷ ys) r s i j m n e =
    let head : c ≡ d = cc in
    let tail : written xs ++ r ≡ written ys ++ s = cc in
    let rest = one_reading q xs ys r s i j m n tail in
    (ap₂ (λ (b : ℕ) (bs : List ℕ). b ∷ bs) head rest.0, rest.1)

pub one_run : (quoted : Bool) (text b c r s : List ℕ) → TakesSigns quoted text b r → TakesSigns quoted text c s → (b ≡ c) × (r ≡ s)
one_run q text b c r s t u =
    let one = one_reading q t.signs u.signs r s t.inside u.inside t.stops u.stops (sym t.parts ∙ u.parts) in
    (t.value ∙ one.0 ∙ sym u.value, one.1)

-- ---- steps of the reader

pub sign_found : (quoted : Bool) (text : List ℕ) (byte : ℕ) (after bytes rest : List ℕ) → TakesSign quoted text byte after → TakesSigns quoted after bytes rest → TakesSigns quoted text (byte ∷ bytes) rest
sign_found q text byte after bytes rest t h = elim t [
  | inl e ↦ record {
    signs = Escaped byte ∷ h.signs;
    inside = h.inside;
    parts = e ∙ ap (λ (l : List ℕ). 92 ∷ byte ∷ l) h.parts;
    stops = h.stops;
    value = ap (λ (l : List ℕ). byte ∷ l) h.value;
  }
  | inr e ↦ record {
    signs = Plain byte ∷ h.signs;
    inside = (e.1, e.2, h.inside);
    parts = e.0 ∙ ap (λ (l : List ℕ). byte ∷ l) h.parts;
    stops = h.stops;
    value = ap (λ (l : List ℕ). byte ∷ l) h.value;
  }
]

-- a sign in front begins every reading
sign_first : (quoted : Bool) (text : List ℕ) (byte : ℕ) (after bytes rest : List ℕ) (signs : List Sign) → TakesSign quoted text byte after → AreInside quoted signs → text ≡ written signs ++ rest → Stops quoted rest → bytes ≡ meant signs
    → (b : List ℕ) × TakesSigns quoted after b rest × (bytes ≡ byte ∷ b)
sign_first q text byte after bytes rest [] t i p s v = absurd (elim t [
  | inl e ↦ not_both q 92 (stops_first q rest 92 (byte ∷ after) s (sym p ∙ e)) (no_end q)
  | inr e ↦ not_both q byte (stops_first q rest byte after s (sym p ∙ e.0)) e.1
])
sign_first q text byte after bytes rest (Plain c ∷ signs) t i p s v = elim t [
  | inl e ↦ let head : c ≡ 92 = cc in absurd (i.1 head)
  | inr e ↦
      let is = e.0 in
      let head : c ≡ byte = cc in
      let tail : after ≡ written signs ++ rest = cc in
      (meant signs, record { signs = signs; inside = i.2; parts = tail; stops = s; value = refl }, v ∙ ap (λ (b : ℕ). b ∷ meant signs) head)
]
sign_first q text byte after bytes rest (Escaped c ∷ signs) t i p s v = elim t [
  | inl e ↦
      let head : c ≡ byte = cc in
      let tail : after ≡ written signs ++ rest = cc in
      (meant signs, record { signs = signs; inside = i; parts = tail; stops = s; value = refl }, v ∙ ap (λ (b : ℕ). b ∷ meant signs) head)
  | inr e ↦ let is = e.0 in let head : byte ≡ 92 = cc in absurd (e.2 head)
]

pub sign_only : (quoted : Bool) (text : List ℕ) (byte : ℕ) (after bytes rest : List ℕ) → TakesSign quoted text byte after → TakesSigns quoted text bytes rest → (b : List ℕ) × TakesSigns quoted after b rest × (bytes ≡ byte ∷ b)
sign_only q text byte after bytes rest t h = sign_first q text byte after bytes rest h.signs t h.inside h.parts h.stops h.value

pub signs_end : (quoted : Bool) (text : List ℕ) → Stops quoted text → TakesSigns quoted text [] text
signs_end q text s = record { signs = []; inside = tt; parts = refl; stops = s; value = refl }

-- where no sign comes, what comes ends the signs, or there is no reading
pub no_signs : (quoted : Bool) (text bytes rest : List ℕ) → ((byte : ℕ) (after : List ℕ) → TakesSign quoted text byte after → ⊥) → (Stops quoted text → ⊥) → TakesSigns quoted text bytes rest → ⊥
no_signs q text bytes rest none goes h = go h.signs h.inside h.parts
  where
    go : (signs : List Sign) → AreInside q signs → text ≡ written signs ++ rest → ⊥
    go [] i p = goes (subst (Stops q) (sym p) h.stops)
    go (Plain c ∷ signs) i p = none c (written signs ++ rest) (inr (p, i.0, i.1))
    go (Escaped c ∷ signs) i p = none c (written signs ++ rest) (inl p)

-- where no sign comes, a reading has none

-- ---- strings

-- a word begins with no quote, and no string is empty
word_first : (signs : List Sign) (rest inner : List ℕ) → AreInside false signs → 0 < length (meant signs) → 34 ∷ inner ≡ written signs ++ rest → ⊥
word_first [] rest inner i s p = omega arith
word_first (Plain c ∷ signs) rest inner i s p = let head : c ≡ 34 = cc in true≢false (sym (ap (ends false) head) ∙ i.0)
word_first (Escaped c ∷ signs) rest inner i s p = let quote : ℕ = 34 in let head : quote ≡ 92 = cc in omega (arith, head)

pub no_word : (text bytes rest inner : List ℕ) → text ≡ 34 ∷ inner → TakesString false text bytes rest → ⊥
no_word text bytes rest inner e h =
    let word = h.1 in
    let some : 0 < length (meant word.signs) = let P : List ℕ → Type 0 = λ b. 0 < length b in subst P word.value h.0 in
    word_first word.signs rest inner word.inside some (sym e ∙ word.parts)

pub one_string : (q p : Bool) (text b c r s : List ℕ) → TakesString q text b r → TakesString p text c s → (q ≡ p) × (b ≡ c) × (r ≡ s)
one_string true true text b c r s t u =
    let e = t.1 in
    let f = u.1 in
    let inner : t.0 ≡ u.0 = cc in
    let P : List ℕ → Type 0 = λ i. TakesSigns true i b (34 ∷ r) in
    let one = one_run true u.0 b c (34 ∷ r) (34 ∷ s) (subst P inner t.2) u.2 in
    let both : 34 ∷ r ≡ 34 ∷ s = one.1 in
    (refl, one.0, cc)
one_string true false text b c r s t u = absurd (no_word text c s t.0 t.1 u)
one_string false true text b c r s t u = absurd (no_word text b r u.0 u.1 t)
one_string false false text b c r s t u = let one = one_run false text b c r s t.1 u.1 in (refl, one.0, one.1)

pub no_string : (q : Bool) (bytes rest : List ℕ) → TakesString q [] bytes rest → ⊥
no_string true bytes rest t = let e = t.1 in cc
no_string false bytes rest t = go t.1.signs t.1.parts t.1.value
  where
    go : (signs : List Sign) → [] ≡ written signs ++ rest → bytes ≡ meant signs → ⊥
    go [] p v = let some = t.0 in omega (arith, some, ap length v)
    go (Plain c ∷ signs) p v = cc
    go (Escaped c ∷ signs) p v = cc
