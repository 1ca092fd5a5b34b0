-- An element at the front of a text is one.
use Rattle.std.proofs.Common.{◌≡◌, ◌≢◌, ℕ, ◌<◌, inl, inr, Bool, true, false, List, [], ◌∷◌, ◌++◌, length, map, take, drop, refl, sym, ap, ap₂, ◌∙◌, subst, arith, true≢false, append_assoc, append-nil, take-append-drop}
use Rattle.std.specs.List.{AllByRecursion}
use Rattle.gx_bytes.specs.Blanks.{core_of}
use Rattle.gx_intarr.specs.Texts.{Sign, written, IsSign, signs_text, is_plain, IsNullWord, IsBareword, SpellsElement}
use Rattle.gx_intarr.specs.Runs.{Pass, Stops}
use Rattle.gx_intarr.specs.Laws.{one_run}
use Rattle.gx_intarr.proofs.RunLemmas.{heads}
use Rattle.gx_intarr.specs.Reading.{TakesSign, TakesQuoted, TakesBareword, TakesElement}

abbrev pub AreSigns : List Sign → Type 0
AreSigns signs = AllByRecursion (λ s. IsSign s.escaped s.byte) signs

abbrev pub bytes_of : List Sign → List ℕ
bytes_of signs = map (λ s. s.byte) signs

-- no byte comes as it is written between quotes
abbrev pub NoSign : List ℕ → Type 0
NoSign text = (byte : ℕ) (rest : List ℕ) → TakesSign text byte rest → ⊥

signs-append : (a b : List Sign) → AreSigns a → AreSigns b → AreSigns (a ++ b)
signs-append [] b p q = q
signs-append (s ∷ a) b p q = (p.0, signs-append a b p.1 q)

signs_text-push : (signs : List Sign) (s : Sign) (x : List ℕ) → signs_text (signs ++ s ∷ []) ++ x ≡ signs_text signs ++ (written s.escaped s.byte ++ x)
signs_text-push [] s x = ap (λ (t : List ℕ). t ++ x) (append-nil (written s.escaped s.byte))
signs_text-push (t ∷ signs) s x =
    append_assoc (written t.escaped t.byte) (signs_text (signs ++ s ∷ [])) x ∙ ap (λ (y : List ℕ). written t.escaped t.byte ++ y) (signs_text-push signs s x)
    ∙ sym (append_assoc (written t.escaped t.byte) (signs_text signs) (written s.escaped s.byte ++ x))

bytes_of-push : (signs : List Sign) (s : Sign) → bytes_of (signs ++ s ∷ []) ≡ bytes_of signs ++ s.byte ∷ []
bytes_of-push [] s = refl
bytes_of-push (t ∷ signs) s = ap (λ (y : List ℕ). t.byte ∷ y) (bytes_of-push signs s)

one_written : (e f : Bool) (b c : ℕ) (x y : List ℕ) → IsSign e b → IsSign f c → written e b ++ x ≡ written f c ++ y → (b ≡ c) × (x ≡ y)
one_written true true b c x y p q e = let all : 92 ∷ b ∷ x ≡ 92 ∷ c ∷ y = e in (cc, cc)
one_written true false b c x y p q e = let all : 92 ∷ b ∷ x ≡ c ∷ y = e in let head : c ≡ 92 = cc in absurd (q.1 head)
one_written false true b c x y p q e = let all : b ∷ x ≡ 92 ∷ c ∷ y = e in let head : b ≡ 92 = cc in absurd (p.1 head)
one_written false false b c x y p q e = let all : b ∷ x ≡ c ∷ y = e in (cc, cc)

quote_no_sign : (e : Bool) (b : ℕ) (x y : List ℕ) → IsSign e b → 34 ∷ x ≡ written e b ++ y → ⊥
quote_no_sign true b x y p e = omega (arith, heads 34 92 x (b ∷ y) e)
quote_no_sign false b x y p e = let all : 34 ∷ x ≡ b ∷ y = e in let head : b ≡ 34 = cc in p.0 head

pub no_sign_at_quote : (rest : List ℕ) → NoSign (34 ∷ rest)
no_sign_at_quote rest byte more t = quote_no_sign t.escaped byte rest more t.is_sign t.parts

one_signs : (a b : List Sign) (x y : List ℕ) → AreSigns a → AreSigns b → NoSign x → NoSign y → signs_text a ++ x ≡ signs_text b ++ y → (bytes_of a ≡ bytes_of b) × (x ≡ y)
one_signs [] [] x y p q m n e = (refl, e)
one_signs [] (t ∷ b) x y p q m n e =
    absurd (m t.byte (signs_text b ++ y) record { escaped = t.escaped; is_sign = q.0; parts = e ∙ append_assoc (written t.escaped t.byte) (signs_text b) y })
one_signs (s ∷ a) [] x y p q m n e =
    absurd (n s.byte (signs_text a ++ x) record { escaped = s.escaped; is_sign = p.0; parts = sym e ∙ append_assoc (written s.escaped s.byte) (signs_text a) x })
one_signs (s ∷ a) (t ∷ b) x y p q m n e =
    let first = one_written s.escaped t.escaped s.byte t.byte (signs_text a ++ x) (signs_text b ++ y) p.0 q.0
    (sym (append_assoc (written s.escaped s.byte) (signs_text a) x) ∙ e ∙ append_assoc (written t.escaped t.byte) (signs_text b) y) in
    let rest = one_signs a b x y p.1 q.1 m n first.1 in
    (ap₂ (λ (c : ℕ) (cs : List ℕ). c ∷ cs) first.0 rest.0, rest.1)

-- the signs read so far, and the rest
pub record HasSigns (inside text rest : List ℕ) : Type 0 where
  pub signs : List Sign
  pub each : AreSigns signs
  pub parts : inside ≡ signs_text signs ++ rest
  pub value : text ≡ bytes_of signs

pub more_signs : (inside text next rest after : List ℕ) (byte : ℕ) → HasSigns inside text rest → TakesSign rest byte after → next ≡ text ++ byte ∷ [] → HasSigns inside next after
more_signs inside text next rest after byte h t e =
    let s : Sign = record { escaped = t.escaped; byte = byte } in
    record {
      signs = h.signs ++ s ∷ [];
      each = signs-append h.signs (s ∷ []) h.each (t.is_sign, tt);
      parts = h.parts ∙ ap (λ (x : List ℕ). signs_text h.signs ++ x) t.parts ∙ sym (signs_text-push h.signs s after);
      value = e ∙ ap (λ (x : List ℕ). x ++ byte ∷ []) h.value ∙ sym (bytes_of-push h.signs s);
    }

pub quoted_breaks : (inside text rest : List ℕ) → HasSigns inside text rest → NoSign rest → ((after : List ℕ) → rest ≢ 34 ∷ after) → (other after : List ℕ) → TakesQuoted inside other after → ⊥
quoted_breaks inside text rest h none unquoted other after t =
    unquoted after (one_signs h.signs t.signs rest (34 ∷ after) h.each t.each none (no_sign_at_quote after) (sym h.parts ∙ t.parts)).1

pub one_quoted : (inside a b x y : List ℕ) → TakesQuoted inside a x → TakesQuoted inside b y → (a ≡ b) × (x ≡ y)
one_quoted inside a b x y s t =
    let same = one_signs s.signs t.signs (34 ∷ x) (34 ∷ y) s.each t.each (no_sign_at_quote x) (no_sign_at_quote y) (sym s.parts ∙ t.parts) in
    let tails : 34 ∷ x ≡ 34 ∷ y = same.1 in
    (s.value ∙ same.0 ∙ sym t.value, cc)

pub one_bareword : (bytes a b x y : List ℕ) → TakesBareword bytes a x → TakesBareword bytes b y → (a ≡ b) × (x ≡ y)
one_bareword bytes a b x y s t =
    let same = one_run is_plain s.raw t.raw x y s.is_bareword.plain t.is_bareword.plain s.stops t.stops (sym s.parts ∙ t.parts) in
    (s.is_bareword.core ∙ ap core_of same.0 ∙ sym t.is_bareword.core, same.1)

-- the run of n plain bytes, where something is left of it that isn't NULL

-- where nothing is left of it, or NULL, no element without quotes stands there
pub no_run : (n : ℕ) (bytes raw core : List ℕ) → raw ≡ take n bytes → core ≡ core_of raw → Pass is_plain (take n bytes) → Stops is_plain (drop n bytes) → ((0 < length core) → (IsNullWord core → ⊥) → ⊥) → (text rest : List ℕ) → TakesBareword bytes text rest → ⊥
no_run n bytes raw core e is run stops bad text rest t =
    let same = one_run is_plain (take n bytes) t.raw (drop n bytes) rest run t.is_bareword.plain stops t.stops (take-append-drop n bytes ∙ t.parts) in
    let core_same : text ≡ core = t.is_bareword.core ∙ ap core_of (sym same.0 ∙ sym e) ∙ sym is in
    bad (subst (λ (x : List ℕ). 0 < length x) core_same t.is_bareword.some) (λ null. t.is_bareword.not_null (subst IsNullWord (sym core_same) null))

no_core : (text : List ℕ) → text ≡ core_of [] → 0 < length text → ⊥
unfolding core_of
no_core text e some = let none : text ≡ [] = e in omega (arith, ap length none)

-- no element without quotes begins with another byte
no_other_first : (c : ℕ) (raw rest more text : List ℕ) → is_plain c ≡ false → c ∷ more ≡ raw ++ rest → IsBareword raw text → ⊥
no_other_first c [] rest more text other e b = no_core text b.core b.some
no_other_first c (d ∷ raw) rest more text other e b =
    let head : d ≡ c = cc in
    true≢false (sym (subst (λ (x : ℕ). is_plain x ≡ true) head b.plain.0) ∙ other)

no_quote_first : (raw rest inside text : List ℕ) → 34 ∷ inside ≡ raw ++ rest → IsBareword raw text → ⊥
no_quote_first raw rest inside text e b = no_other_first 34 raw rest inside text refl e b

-- no element begins with the closing brace
pub no_brace_first : (more text rest : List ℕ) → TakesElement (125 ∷ more) text rest → ⊥
no_brace_first more text rest (inl t) = omega (arith, heads 125 34 more t.0 t.1)
no_brace_first more text rest (inr t) = no_other_first 125 t.raw rest more text refl t.parts t.is_bareword

-- nothing but the quote decides which of the two it is
pub quoted_only : (bytes inside : List ℕ) → bytes ≡ 34 ∷ inside → ((text rest : List ℕ) → TakesQuoted inside text rest → ⊥) → (text rest : List ℕ) → TakesElement bytes text rest → ⊥
quoted_only bytes inside e none text rest (inl t) =
    let all : 34 ∷ t.0 ≡ 34 ∷ inside = sym t.1 ∙ e in
    let same : t.0 ≡ inside = cc in
    none text rest (subst (λ (x : List ℕ). TakesQuoted x text rest) same t.2)
quoted_only bytes inside e none text rest (inr t) = no_quote_first t.raw rest inside text (sym e ∙ t.parts) t.is_bareword

pub bareword_only : (bytes : List ℕ) → ((inside : List ℕ) → bytes ≢ 34 ∷ inside) → ((text rest : List ℕ) → TakesBareword bytes text rest → ⊥) → (text rest : List ℕ) → TakesElement bytes text rest → ⊥
bareword_only bytes unquoted none text rest (inl t) = unquoted t.0 t.1
bareword_only bytes unquoted none text rest (inr t) = none text rest t

pub one_take : (bytes a b x y : List ℕ) → TakesElement bytes a x → TakesElement bytes b y → (a ≡ b) × (x ≡ y)
one_take bytes a b x y (inl s) (inl t) =
    let all : 34 ∷ t.0 ≡ 34 ∷ s.0 = sym t.1 ∙ s.1 in
    let same : t.0 ≡ s.0 = cc in
    one_quoted s.0 a b x y s.2 (subst (λ (i : List ℕ). TakesQuoted i b y) same t.2)
one_take bytes a b x y (inl s) (inr t) = absurd (no_quote_first t.raw y s.0 b (sym s.1 ∙ t.parts) t.is_bareword)
one_take bytes a b x y (inr s) (inl t) = absurd (no_quote_first s.raw x t.0 a (sym t.1 ∙ s.parts) s.is_bareword)
one_take bytes a b x y (inr s) (inr t) = one_bareword bytes a b x y s t

-- an element's text and what stands behind it
pub spelled_takes : (raw text rest : List ℕ) → SpellsElement raw text → Stops is_plain rest → TakesElement (raw ++ rest) text rest
spelled_takes raw text rest (inl q) stops = inl (
  signs_text q.signs ++ 34 ∷ rest,
  ap (λ (x : List ℕ). x ++ rest) q.parts ∙ ap (λ (x : List ℕ). 34 ∷ x) (append_assoc (signs_text q.signs) (34 ∷ []) rest),
  record { signs = q.signs; each = q.each; parts = refl; value = q.value },
)
spelled_takes raw text rest (inr b) stops = inr record { raw = raw; parts = refl; is_bareword = b; stops = stops }

pub takes_spelled : (bytes text rest : List ℕ) → TakesElement bytes text rest → (raw : List ℕ) × (bytes ≡ raw ++ rest) × SpellsElement raw text
takes_spelled bytes text rest (inl t) = (
  34 ∷ (signs_text t.2.signs ++ 34 ∷ []),
  t.1 ∙ ap (λ (x : List ℕ). 34 ∷ x) (t.2.parts ∙ sym (append_assoc (signs_text t.2.signs) (34 ∷ []) rest)),
  inl record { signs = t.2.signs; each = t.2.each; parts = refl; value = t.2.value },
)
takes_spelled bytes text rest (inr t) = (t.raw, t.parts, inr t.is_bareword)
