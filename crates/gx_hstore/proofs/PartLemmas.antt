-- A text spells pairs exactly where it is made of them.
use Rattle.std.proofs.Common.{◌≡◌, ℕ, Bool, true, false, List, [], ◌∷◌, ◌++◌, length, Option, ◌⊎◌, ◌↔◌, inl, inr, refl, sym, ap, ap₂, ◌∙◌, subst, arith, append_assoc, append-nil, true≢false}
use Rattle.std.specs.Char.{is_ascii_whitespace}
use Rattle.std.proofs.lemmas.Bool.{cases_Bool}
use Rattle.std.proofs.lemmas.List.Elements.{All-from_recursion}
use Rattle.gx_bytes.specs.Blanks.{without_leading_blank}
use Rattle.gx_bytes.proofs.BlankLemmas.{skips_blank as skips_all}
use Rattle.gx_hstore.specs.Map.{Pair}
use Rattle.gx_hstore.specs.Text.{Sign, Plain, Escaped, written, meant, ends, Stops, TakesString, value_of, TakesPair, SpellsPairs}
use Rattle.gx_hstore.specs.Parts.{AreBlank, string_text, IsString, PairPart, IsPairPart, pair_text, pair_meant, IsMadeOf}

-- ---- white space

split_blank : (text : List ℕ) → (blank : List ℕ) × AreBlank blank × (text ≡ blank ++ without_leading_blank text)
split_blank [] = ([], tt, refl)
split_blank (c ∷ cs) = elim (cases_Bool (is_ascii_whitespace c)) [
  | inl white ↦ let more = split_blank cs in (c ∷ more.0, (white, more.1), rw white (ap (λ (t : List ℕ). c ∷ t) more.2))
  | inr other ↦ ([], tt, rw other refl)
]

skips_blank : (blank rest : List ℕ) → AreBlank blank → without_leading_blank (blank ++ rest) ≡ without_leading_blank rest
skips_blank blank rest h = skips_all blank rest (All-from_recursion (λ c. is_ascii_whitespace c ≡ true) blank h)

blank_stops : (blank rest : List ℕ) → AreBlank blank → Stops false rest → Stops false (blank ++ rest)
blank_stops [] rest h s = s
blank_stops (c ∷ cs) rest h s = rw h.0 refl

inside_is_bare : (c : ℕ) → ends false c ≡ false → is_ascii_whitespace c ≡ false
inside_is_bare c h = elim (cases_Bool (is_ascii_whitespace c)) [
  | inl white ↦ let clash : true ≡ false = rw white at h in absurd (true≢false clash)
  | inr other ↦ other
]

-- ---- a key or a value

string_bare : (quoted : Bool) (signs : List Sign) (rest : List ℕ) → IsString quoted signs → without_leading_blank (string_text quoted signs ++ rest) ≡ string_text quoted signs ++ rest
string_bare true signs rest h = refl
string_bare false [] rest h = absurd (omega (arith, h.1))
string_bare false (Plain c ∷ signs) rest h = rw (inside_is_bare c h.0.0) refl
string_bare false (Escaped c ∷ signs) rest h = refl

length-meant : (signs : List Sign) → length (meant signs) ≡ length signs
length-meant [] = refl
length-meant (Plain c ∷ signs) = omega (arith, length-meant signs)
length-meant (Escaped c ∷ signs) = omega (arith, length-meant signs)

string_taken : (quoted : Bool) (signs : List Sign) (rest : List ℕ) → IsString quoted signs → Stops false rest → TakesString quoted (string_text quoted signs ++ rest) (meant signs) rest
string_taken true signs rest h s =
    (written signs ++ 34 ∷ rest, ap (λ (t : List ℕ). 34 ∷ t) (append_assoc (written signs) (34 ∷ []) rest), record { signs = signs; inside = h; parts = refl; stops = refl; value = refl })
string_taken false signs rest h s = (omega (arith, h.1, length-meant signs), record { signs = signs; inside = h.0; parts = refl; stops = s; value = refl })

string_made : (quoted : Bool) (text bytes rest : List ℕ) → TakesString quoted text bytes rest → (signs : List Sign) × IsString quoted signs × (text ≡ string_text quoted signs ++ rest) × (bytes ≡ meant signs)
string_made true text bytes rest h =
    let t = h.2 in
    (t.signs, t.inside, h.1 ∙ ap (λ (u : List ℕ). 34 ∷ u) (t.parts ∙ sym (append_assoc (written t.signs) (34 ∷ []) rest)), t.value)
string_made false text bytes rest h =
    let t = h.1 in
    (t.signs, (t.inside, omega (arith, h.0, length-meant t.signs, ap length t.value)), t.parts, t.value)

-- ---- a pair

seven : (a k b c v d rest : List ℕ) → (a ++ (k ++ (b ++ 61 ∷ 62 ∷ (c ++ (v ++ d))))) ++ rest ≡ a ++ (k ++ (b ++ 61 ∷ 62 ∷ (c ++ (v ++ (d ++ rest)))))
seven a k b c v d rest = simp append_assoc

-- nothing, or a comma
abbrev Ends : List ℕ → Type 0
Ends rest = (rest ≡ []) ⊎ ((more : List ℕ) × (rest ≡ 44 ∷ more))

ends_stop : (rest : List ℕ) → Ends rest → Stops false rest
ends_stop rest e = elim e [ inl none ↦ subst (Stops false) (sym none) tt | inr some ↦ subst (Stops false) (sym some.1) refl ]

ends_bare : (rest : List ℕ) → Ends rest → without_leading_blank rest ≡ rest
ends_bare rest e =
    let P : List ℕ → Type 0 = λ t. without_leading_blank t ≡ t in
    elim e [ inl none ↦ subst P (sym none) refl | inr some ↦ subst P (sym some.1) refl ]

pair_taken : (p : PairPart) (rest : List ℕ) → IsPairPart p → Ends rest → TakesPair (pair_text p ++ rest) (pair_meant p) rest
pair_taken p rest h e =
    let value = string_text p.value_quoted p.value in
    let last = p.behind_value ++ rest in
    let arrow = p.before_value ++ (value ++ last) in
    let behind = p.behind_key ++ 61 ∷ 62 ∷ arrow in
    let key = string_text p.key_quoted p.key in
    let front : without_leading_blank (pair_text p ++ rest) ≡ key ++ behind =
    ap without_leading_blank (seven p.before_key key p.behind_key p.before_value value p.behind_value rest)
    ∙ skips_blank p.before_key (key ++ behind) h.blank_before_key
    ∙ string_bare p.key_quoted p.key behind h.is_key in
    let second : without_leading_blank arrow ≡ value ++ last = skips_blank p.before_value (value ++ last) h.blank_before_value ∙ string_bare p.value_quoted p.value last h.is_value in
    record {
      key_quoted = p.key_quoted;
      behind_key = behind;
      key = subst (λ (t : List ℕ). TakesString p.key_quoted t (meant p.key) behind) (sym front)
          (string_taken p.key_quoted p.key behind h.is_key (blank_stops p.behind_key (61 ∷ 62 ∷ arrow) h.blank_behind_key refl));
      behind_arrow = arrow;
      arrow = skips_blank p.behind_key (61 ∷ 62 ∷ arrow) h.blank_behind_key;
      value_quoted = p.value_quoted;
      value_bytes = meant p.value;
      behind_value = last;
      value = subst (λ (t : List ℕ). TakesString p.value_quoted t (meant p.value) last) (sym second)
          (string_taken p.value_quoted p.value last h.is_value (blank_stops p.behind_value rest h.blank_behind_value (ends_stop rest e)));
      stands_for = refl;
      behind = sym (skips_blank p.behind_value rest h.blank_behind_value ∙ ends_bare rest e);
    }

pair_made : (text : List ℕ) (pair : Pair) (rest : List ℕ) → TakesPair text pair rest → (p : PairPart) × IsPairPart p × (pair ≡ pair_meant p) × (text ≡ pair_text p ++ rest)
pair_made text pair rest t =
    let a = split_blank text in
    let k = string_made t.key_quoted (without_leading_blank text) pair.0 t.behind_key t.key in
    let b = split_blank t.behind_key in
    let c = split_blank t.behind_arrow in
    let v = string_made t.value_quoted (without_leading_blank t.behind_arrow) t.value_bytes t.behind_value t.value in
    let d = split_blank t.behind_value in
    let p : PairPart = record {
      before_key = a.0;
      key_quoted = t.key_quoted;
      key = k.0;
      behind_key = b.0;
      before_value = c.0;
      value_quoted = t.value_quoted;
      value = v.0;
      behind_value = d.0;
    } in
    let last : t.behind_value ≡ d.0 ++ rest = d.2 ∙ ap (λ (u : List ℕ). d.0 ++ u) (sym t.behind) in
    let second : t.behind_arrow ≡ c.0 ++ (string_text t.value_quoted v.0 ++ (d.0 ++ rest)) =
    c.2 ∙ ap (λ (u : List ℕ). c.0 ++ u) (v.2 ∙ ap (λ (u : List ℕ). string_text t.value_quoted v.0 ++ u) last) in
    let middle : t.behind_key ≡ b.0 ++ 61 ∷ 62 ∷ (c.0 ++ (string_text t.value_quoted v.0 ++ (d.0 ++ rest))) =
    b.2 ∙ ap (λ (u : List ℕ). b.0 ++ u) (t.arrow ∙ ap (λ (u : List ℕ). 61 ∷ 62 ∷ u) second) in (
      p,
      record {
        blank_before_key = a.1;
        is_key = k.1;
        blank_behind_key = b.1;
        blank_before_value = c.1;
        is_value = v.1;
        blank_behind_value = d.1;
      },
      ap₂ (λ (x : List ℕ) (y : Option (List ℕ)). let q : Pair = (x, y) in q) k.3 (t.stands_for ∙ ap (value_of t.value_quoted) v.3),
      a.2 ∙ ap (λ (u : List ℕ). a.0 ++ u) (k.2 ∙ ap (λ (u : List ℕ). string_text t.key_quoted k.0 ++ u) middle)
          ∙ sym (seven a.0 (string_text t.key_quoted k.0) b.0 c.0 (string_text t.value_quoted v.0) d.0 rest),
    )

-- ---- pairs

spelled_made : (text : List ℕ) (pairs : List Pair) → SpellsPairs text pairs → IsMadeOf text pairs
spelled_made text [] h =
    let s = split_blank text in
    subst AreBlank (sym (s.2 ∙ ap (λ (u : List ℕ). s.0 ++ u) h ∙ append-nil s.0)) s.1
spelled_made text (pair ∷ pairs) h =
    let m = pair_made text pair h.0 h.1 in (
      m.0,
      m.1,
      m.2,
      elim h.2 [
        | inl last ↦ inl (m.3 ∙ ap (λ (u : List ℕ). pair_text m.0 ++ u) last.0 ∙ append-nil (pair_text m.0), last.1)
        | inr more ↦ inr (more.0, m.3 ∙ ap (λ (u : List ℕ). pair_text m.0 ++ u) more.1, spelled_made more.0 pairs more.2)
      ],
    )

made_spelled : (text : List ℕ) (pairs : List Pair) → IsMadeOf text pairs → SpellsPairs text pairs
made_spelled text [] h = ap without_leading_blank (sym (append-nil text)) ∙ skips_blank text [] h
made_spelled text (pair ∷ pairs) h =
    let taken = λ (rest : List ℕ) (e : Ends rest) (is : text ≡ pair_text h.0 ++ rest).
    subst (λ (q : Pair). TakesPair text q rest) (sym h.2) (subst (λ (t : List ℕ). TakesPair t (pair_meant h.0) rest) (sym is) (pair_taken h.0 rest h.1 e)) in
    elim h.3 [
      | inl last ↦ ([], taken [] (inl refl) (last.0 ∙ sym (append-nil (pair_text h.0))), inl (refl, last.1))
      | inr more ↦ (44 ∷ more.0, taken (44 ∷ more.0) (inr (more.0, refl)) more.1, inr (more.0, refl, made_spelled more.0 pairs more.2))
    ]

pub spelled_as_made : (text : List ℕ) (pairs : List Pair) → SpellsPairs text pairs ↔ IsMadeOf text pairs
spelled_as_made text pairs = (spelled_made text pairs, made_spelled text pairs)
