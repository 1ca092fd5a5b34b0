-- A text begins with one list of tokens.
use Rattle.std.proofs.Common.{◌≡◌, ◌==◌, ℕ, ◌⊎◌, inl, inr, true, false, List, [], ◌∷◌, ◌++◌, None, Some, refl, sym, ap, ap₂, ◌∙◌, subst, arith, true≢false}
use Rattle.std.specs.Char.{is_ascii_whitespace}
use Rattle.std.proofs.lemmas.Bool.{cases_Bool}
use Rattle.std.proofs.lemmas.Bool.Decides.{nat_tests}
use Rattle.gx_formula.specs.declared.sign.Sign.{Sign}
use Rattle.gx_formula.specs.Tokens.{sign_of, Token, Word, Mark, IsBlank, StartsWord, AreWords, StandsFor, TakesToken, Begins}

same : (a b : ℕ) → (a == b) ≡ true → a ≡ b
same a b e = grind (arith, nat_tests)

sign_bare : (c : ℕ) (t : Sign) → sign_of c ≡ Some t → is_ascii_whitespace c ≡ false
sign_bare c t h = elim (cases_Bool (c == 33)) [
  | inl is ↦ ap is_ascii_whitespace (same c 33 is)
  | inr a ↦ elim (cases_Bool (c == 38)) [
    | inl is ↦ ap is_ascii_whitespace (same c 38 is)
    | inr b ↦ elim (cases_Bool (c == 124)) [
      | inl is ↦ ap is_ascii_whitespace (same c 124 is)
      | inr d ↦ elim (cases_Bool (c == 40)) [
        | inl is ↦ ap is_ascii_whitespace (same c 40 is)
        | inr e ↦ elim (cases_Bool (c == 41)) [
          | inl is ↦ ap is_ascii_whitespace (same c 41 is)
          | inr f ↦ let none = rw (a, b, d, e, f) at h in cc
        ]
      ]
    ]
  ]
]

-- no white space comes first
abbrev pub IsBare : List ℕ → Type 0
IsBare [] = ⊥
IsBare (c ∷ rest) = is_ascii_whitespace c ≡ false

starts_bare : (text : List ℕ) → StartsWord text → IsBare text
starts_bare [] s = s
starts_bare (c ∷ rest) s = s.0

pub blanks_one : (a b x y : List ℕ) → IsBlank a → IsBlank b → IsBare x → IsBare y → a ++ x ≡ b ++ y → x ≡ y
blanks_one [] [] x y p q s t e = e
blanks_one [] (b ∷ bs) x y p q s t e = absurd (true≢false (sym q.0 ∙ subst IsBare e s))
blanks_one (a ∷ front) [] x y p q s t e = absurd (true≢false (sym p.0 ∙ subst IsBare (sym e) t))
blanks_one (a ∷ front) (b ∷ bs) x y p q s t e =
    let tail : front ++ x ≡ bs ++ y = cc in
    blanks_one front bs x y p.1 q.1 s t tail

-- all white space, and something that isn't
blank_bare : (a x : List ℕ) → IsBlank (a ++ x) → IsBare x → ⊥
blank_bare [] [] p s = s
blank_bare [] (c ∷ x) p s = true≢false (sym p.0 ∙ s)
blank_bare (c ∷ a) x p s = blank_bare a x p.1 s

starts_no_sign : (text rest : List ℕ) (c : ℕ) (s : Sign) → StartsWord text → text ≡ c ∷ rest → sign_of c ≡ Some s → ⊥
starts_no_sign [] rest c s w e f = w
starts_no_sign (d ∷ text) rest c s w e f =
    let head : d ≡ c = cc in
    let wrong : None ≡ Some s = sym w.1 ∙ ap sign_of head ∙ f in
    cc

-- one token more
pub begins_more : (W : Type 0) (Takes : List ℕ → W → List ℕ → Type 0) (xs : List (Token W)) (t : Token W) (text x y : List ℕ) → Begins Takes text xs x → TakesToken Takes x t y → Begins Takes text (xs ++ t ∷ []) y
begins_more W Takes [] t text x y a b = (y, subst (λ (s : List ℕ). TakesToken Takes s t y) (sym a) b, refl)
begins_more W Takes (u ∷ xs) t text x y a b = (a.0, a.1, begins_more W Takes xs t a.0 x y a.2 b)

module _ (W : Type 0) (Takes : List ℕ → W → List ℕ → Type 0) (IsFar : List ℕ → Type 0) (words : AreWords Takes IsFar) where
  pub stands_bare : (t : Token W) (text rest : List ℕ) → StandsFor Takes t text rest → IsBare text
  stands_bare (Word w) text rest s = starts_bare text (words.starts text w rest s)
  stands_bare (Mark m) text rest s = subst IsBare (sym s.1) (sign_bare s.0 m s.2)

  one_stands : (t u : Token W) (text x y : List ℕ) → StandsFor Takes t text x → StandsFor Takes u text y → (t ≡ u) × (x ≡ y)
  one_stands (Word v) (Word w) text x y a b = let one = words.one text v w x y a b in (ap Word one.0, one.1)
  one_stands (Word v) (Mark m) text x y a b = absurd (starts_no_sign text y b.0 m (words.starts text v x a) b.1 b.2)
  one_stands (Mark m) (Word w) text x y a b = absurd (starts_no_sign text x a.0 m (words.starts text w y b) a.1 a.2)
  one_stands (Mark m) (Mark n) text x y a b =
      let both : a.0 ∷ x ≡ b.0 ∷ y = sym a.1 ∙ b.1 in
      let head : a.0 ≡ b.0 = cc in
      let tail : x ≡ y = cc in
      let signs : Some m ≡ Some n = sym a.2 ∙ ap sign_of head ∙ b.2 in
      let sign : m ≡ n = cc in
      (ap Mark sign, tail)

  pub one_token : (t u : Token W) (text x y : List ℕ) → TakesToken Takes text t x → TakesToken Takes text u y → (t ≡ u) × (x ≡ y)
  one_token t u text x y a b =
      let core = blanks_one a.blank b.blank a.core b.core a.white b.white (stands_bare t a.core x a.stands) (stands_bare u b.core y b.stands) (sym a.parts ∙ b.parts) in
      one_stands t u b.core x y (subst (λ (c : List ℕ). StandsFor Takes t c x) core a.stands) b.stands

  pub no_token : (t : Token W) (text x : List ℕ) → IsBlank text → TakesToken Takes text t x → ⊥
  no_token t text x p a = blank_bare a.blank a.core (subst IsBlank a.parts p) (stands_bare t a.core x a.stands)

  far_stands : (t : Token W) (text x : List ℕ) → IsFar text → StandsFor Takes t text x → ⊥
  far_stands (Word w) text x f a = words.near text w x a f
  far_stands (Mark m) text x f a = starts_no_sign text x a.0 m (words.far_starts text f) a.1 a.2

  pub far_token : (t : Token W) (text blank core x : List ℕ) → text ≡ blank ++ core → IsBlank blank → IsFar core → TakesToken Takes text t x → ⊥
  far_token t text blank core x e p f a =
      let one = blanks_one a.blank blank a.core core a.white p (stands_bare t a.core x a.stands) (starts_bare core (words.far_starts core f)) (sym a.parts ∙ e) in
      far_stands t core x f (subst (λ (c : List ℕ). StandsFor Takes t c x) one a.stands)

  pub far_blank : (text blank core : List ℕ) → text ≡ blank ++ core → IsFar core → IsBlank text → ⊥
  far_blank text blank core e f p = blank_bare blank core (subst IsBlank e p) (starts_bare core (words.far_starts core f))

  pub one_far : (text a b x y : List ℕ) → text ≡ a ++ x → text ≡ b ++ y → IsBlank a → IsBlank b → IsBare x → IsFar y → IsFar x
  one_far text a b x y e f p q s far = subst IsFar (sym (blanks_one a b x y p q s (starts_bare y (words.far_starts y far)) (sym e ∙ f))) far

  -- of two fronts of a text one begins with the other
  pub compare : (xs ys : List (Token W)) (text x y : List ℕ) → Begins Takes text xs x → Begins Takes text ys y
      → ((more : List (Token W)) × (xs ≡ ys ++ more) × Begins Takes y more x) ⊎ ((more : List (Token W)) × (ys ≡ xs ++ more) × Begins Takes x more y)
  compare [] ys text x y a b = inr (ys, refl, subst (λ (t : List ℕ). Begins Takes t ys y) a b)
  compare (t ∷ xs) [] text x y a b = inl (t ∷ xs, refl, subst (λ (s : List ℕ). Begins Takes s (t ∷ xs) x) b a)
  compare (t ∷ xs) (u ∷ ys) text x y a b =
      let one = one_token t u text a.0 b.0 a.1 b.1 in
      elim (compare xs ys b.0 x y (subst (λ (s : List ℕ). Begins Takes s xs x) one.1 a.2) b.2) [
        | inl p ↦ inl (p.0, ap₂ (λ (c : Token W) (cs : List (Token W)). c ∷ cs) one.0 p.1, p.2)
        | inr p ↦ inr (p.0, ap₂ (λ (c : Token W) (cs : List (Token W)). c ∷ cs) (sym one.0) p.1, p.2)
      ]
