-- One pair in front of a text, and one list of pairs to a text.
use Rattle.std.proofs.Common.{◌≡◌, ◌≢◌, ◌==◌, ℕ, suc, ◌<◌, ◌≤◌, Bool, true, false, cond, inl, inr, List, [], ◌∷◌, length, length-append, Option, refl, sym, ap, ap₂, ◌∙◌, subst, true≢false, arith, ne_eqb}
use Rattle.std.specs.Char.{is_ascii_whitespace}
use Rattle.gx_bytes.specs.Blanks.{without_leading_blank}
use Rattle.gx_hstore.specs.Map.{Pair, find}
use Rattle.gx_hstore.specs.Text.{written, TakesSigns, TakesString, value_of, TakesPair, SpellsPairs, SpellsHstore}
use Rattle.gx_hstore.proofs.SignLemmas.{one_string, no_string, no_word}
use Rattle.gx_hstore.proofs.MapLemmas.{one_list}

pub no_length : (t : List ℕ) → true ≡ (length t == 0) → t ≡ []
no_length [] e = refl
no_length (c ∷ t) e = absurd (true≢false (e ∙ ne_eqb (length (c ∷ t)) 0 (omega arith)))

pub some_length : (t : List ℕ) → false ≡ (length t == 0) → 0 < length t
some_length [] e = absurd (true≢false (sym e))
some_length (c ∷ t) e = omega arith

-- ---- the parts of a pair

-- a string in quotes, and a word
pub quoted_string : (text inner bytes rest : List ℕ) (quoted : Bool) → text ≡ 34 ∷ inner → (quoted ≡ true) × TakesSigns true inner bytes (34 ∷ rest) → TakesString quoted text bytes rest
quoted_string text inner bytes rest quoted e h = let P : Bool → Type 0 = λ q. TakesString q text bytes rest in subst P (sym h.0) (inner, e, h.1)

pub no_quoted : (text inner : List ℕ) → text ≡ 34 ∷ inner → ((bytes rest : List ℕ) → TakesSigns true inner bytes (34 ∷ rest) → ⊥) → (quoted : Bool) (bytes rest : List ℕ) → TakesString quoted text bytes rest → ⊥
no_quoted text inner e none true bytes rest t =
    let f = t.1 in
    let same : t.0 ≡ inner = cc in
    let P : List ℕ → Type 0 = λ i. TakesSigns true i bytes (34 ∷ rest) in
    none bytes rest (subst P same t.2)
no_quoted text inner e none false bytes rest t = no_word text bytes rest inner e t

pub word_string : (text bytes rest : List ℕ) (quoted : Bool) → (quoted ≡ false) × TakesString false text bytes rest → TakesString quoted text bytes rest
word_string text bytes rest quoted h = let P : Bool → Type 0 = λ q. TakesString q text bytes rest in subst P (sym h.0) h.1

pub no_word_string : (text : List ℕ) → ((rest : List ℕ) → text ≢ 34 ∷ rest) → ((bytes rest : List ℕ) → TakesString false text bytes rest → ⊥) → (quoted : Bool) (bytes rest : List ℕ) → TakesString quoted text bytes rest → ⊥
no_word_string text other none true bytes rest t = other t.0 t.1
no_word_string text other none false bytes rest t = none bytes rest t

-- no string in front, no arrow behind the key, and no string behind the arrow

-- the keys of two readings end at one place
same_key_end : (text core : List ℕ) (q : Bool) (key after : List ℕ) → core ≡ without_leading_blank text → TakesString q core key after → (pair : Pair) (rest : List ℕ) (t : TakesPair text pair rest) → (pair.0 ≡ key) × (t.behind_key ≡ after)
same_key_end text core q key after e k pair rest t =
    let P : List ℕ → Type 0 = λ c. TakesString q c key after in
    let one = one_string t.key_quoted q (without_leading_blank text) pair.0 key t.behind_key after t.key (subst P e k) in
    (one.1, one.2)

pub no_arrow : (text core : List ℕ) (q : Bool) (key after behind : List ℕ) → core ≡ without_leading_blank text → TakesString q core key after → behind ≡ without_leading_blank after → ((more : List ℕ) → behind ≢ 61 ∷ 62 ∷ more) → (pair : Pair) (rest : List ℕ) → TakesPair text pair rest → ⊥
no_arrow text core q key after behind e k f none pair rest t =
    let same = same_key_end text core q key after e k pair rest t in
    none t.behind_arrow (f ∙ ap without_leading_blank (sym same.1) ∙ t.arrow)

-- the arrows of two readings end at one place
same_arrow : (text core : List ℕ) (q : Bool) (key after behind arrow : List ℕ) → core ≡ without_leading_blank text → TakesString q core key after → behind ≡ without_leading_blank after → behind ≡ 61 ∷ 62 ∷ arrow
    → (pair : Pair) (rest : List ℕ) (t : TakesPair text pair rest) → t.behind_arrow ≡ arrow
same_arrow text core q key after behind arrow e k f g pair rest t =
    let same = same_key_end text core q key after e k pair rest t in
    let both : 61 ∷ 62 ∷ t.behind_arrow ≡ 61 ∷ 62 ∷ arrow = sym t.arrow ∙ ap without_leading_blank same.1 ∙ sym f ∙ g in
    cc

pub no_value : (text core : List ℕ) (q : Bool) (key after behind arrow inner : List ℕ) → core ≡ without_leading_blank text → TakesString q core key after → behind ≡ without_leading_blank after → behind ≡ 61 ∷ 62 ∷ arrow
    → inner ≡ without_leading_blank arrow → ((q : Bool) (b r : List ℕ) → TakesString q inner b r → ⊥) → (pair : Pair) (rest : List ℕ) → TakesPair text pair rest → ⊥
no_value text core q key after behind arrow inner e k f g h none pair rest t =
    let same = same_arrow text core q key after behind arrow e k f g pair rest t in
    let P : List ℕ → Type 0 = λ c. TakesString t.value_quoted c t.value_bytes t.behind_value in
    none t.value_quoted t.value_bytes t.behind_value (subst P (ap without_leading_blank same ∙ sym h) t.value)

pub pair_taken : (text core : List ℕ) (q : Bool) (key after behind arrow inner : List ℕ) (p : Bool) (bytes last rest : List ℕ) (value : Option (List ℕ)) → core ≡ without_leading_blank text → TakesString q core key after → behind ≡ without_leading_blank after → behind ≡ 61 ∷ 62 ∷ arrow
    → inner ≡ without_leading_blank arrow → TakesString p inner bytes last → value ≡ value_of p bytes → rest ≡ without_leading_blank last → TakesPair text (key, value) rest
pair_taken text core q key after behind arrow inner p bytes last rest value e k f g h v s b = record {
  key_quoted = q;
  behind_key = after;
  key = let P : List ℕ → Type 0 = λ c. TakesString q c key after in subst P e k;
  behind_arrow = arrow;
  arrow = sym f ∙ g;
  value_quoted = p;
  value_bytes = bytes;
  behind_value = last;
  value = let P : List ℕ → Type 0 = λ c. TakesString p c bytes last in subst P h v;
  stands_for = s;
  behind = b;
}

pub one_pair : (text : List ℕ) (p q : Pair) (r s : List ℕ) → TakesPair text p r → TakesPair text q s → (p ≡ q) × (r ≡ s)
one_pair text p q r s t u =
    let key = one_string t.key_quoted u.key_quoted (without_leading_blank text) p.0 q.0 t.behind_key u.behind_key t.key u.key in
    let arrows : 61 ∷ 62 ∷ t.behind_arrow ≡ 61 ∷ 62 ∷ u.behind_arrow = sym t.arrow ∙ ap without_leading_blank key.2 ∙ u.arrow in
    let behind : t.behind_arrow ≡ u.behind_arrow = cc in
    let P : List ℕ → Type 0 = λ c. TakesString t.value_quoted (without_leading_blank c) t.value_bytes t.behind_value in
    let value = one_string t.value_quoted u.value_quoted (without_leading_blank u.behind_arrow) t.value_bytes u.value_bytes t.behind_value u.behind_value (subst P behind t.value) u.value in
    let values : p.1 ≡ q.1 = t.stands_for ∙ ap₂ value_of value.0 value.1 ∙ sym u.stands_for in
    (ap₂ (λ (k : List ℕ) (v : Option (List ℕ)). (k, v)) key.1 values, t.behind ∙ ap without_leading_blank value.2 ∙ sym u.behind)

-- no pair stands in front of white space
pub no_blank_pair : (text : List ℕ) (p : Pair) (rest : List ℕ) → without_leading_blank text ≡ [] → TakesPair text p rest → ⊥
no_blank_pair text p rest e t =
    let P : List ℕ → Type 0 = λ c. TakesString t.key_quoted c p.0 t.behind_key in
    no_string t.key_quoted p.0 t.behind_key (subst P e t.key)

-- ---- steps of the reader of pairs

-- a pair in front with a comma behind it begins every reading
pub comma_found : (text after more : List ℕ) (p : Pair) → TakesPair text p after → after ≡ 44 ∷ more → (later : List Pair) → SpellsPairs more later → SpellsPairs text (p ∷ later)
comma_found text after more p t e later s = (after, t, inr (more, e, s))

pub comma_only : (text after more : List ℕ) (p : Pair) → TakesPair text p after → after ≡ 44 ∷ more → (all : List Pair) → SpellsPairs text all → (later : List Pair) × SpellsPairs more later × (all ≡ p ∷ later)
comma_only text after more p t e [] s = absurd (no_blank_pair text p after s t)
comma_only text after more p t e (q ∷ qs) s =
    let one = one_pair text q p s.0 after s.1 t in
    elim s.2 [
      | inl end ↦ let empty : [] ≡ 44 ∷ more = sym end.0 ∙ one.1 ∙ e in absurd (let f : ⊥ = cc in f)
      | inr goes ↦
          let tails : 44 ∷ goes.0 ≡ 44 ∷ more = sym goes.1 ∙ one.1 ∙ e in
          let same : goes.0 ≡ more = cc in
          let P : List ℕ → Type 0 = λ m. SpellsPairs m qs in
          (qs, subst P same goes.2, ap (λ (x : Pair). x ∷ qs) one.0)
    ]

-- the last pair
pub last_pair : (text after : List ℕ) (p : Pair) → TakesPair text p after → after ≡ [] → SpellsPairs text (p ∷ [])
last_pair text after p t e = (after, t, inl (e, refl))

-- no pair in front of more than white space, and neither the end nor a comma behind a pair
pub no_pairs : (text : List ℕ) → 0 < length (without_leading_blank text) → ((p : Pair) (rest : List ℕ) → TakesPair text p rest → ⊥) → (all : List Pair) → SpellsPairs text all → ⊥
no_pairs text some none [] s = omega (arith, some, ap length s)
no_pairs text some none (p ∷ all) s = none p s.0 s.1

pub no_comma : (text after : List ℕ) (p : Pair) → TakesPair text p after → 0 < length after → ((more : List ℕ) → after ≢ 44 ∷ more) → (all : List Pair) → SpellsPairs text all → ⊥
no_comma text after p t some none [] s = no_blank_pair text p after s t
no_comma text after p t some none (q ∷ qs) s =
    let one = one_pair text q p s.0 after s.1 t in
    elim s.2 [
      | inl end ↦ omega (arith, some, ap length (sym one.1 ∙ end.0))
      | inr goes ↦ none goes.0 (sym one.1 ∙ goes.1)
    ]

pub one_pairs : (text : List ℕ) (a b : List Pair) → SpellsPairs text a → SpellsPairs text b → a ≡ b
one_pairs text [] [] s t = refl
one_pairs text [] (q ∷ b) s t = absurd (no_blank_pair text q t.0 s t.1)
one_pairs text (p ∷ a) [] s t = absurd (no_blank_pair text p s.0 t s.1)
one_pairs text (p ∷ a) (q ∷ b) s t =
    let one = one_pair text p q s.0 t.0 s.1 t.1 in
    elim s.2 [
      | inl end ↦ elim t.2 [
        | inl stop ↦ ap₂ (λ (x : Pair) (xs : List Pair). x ∷ xs) one.0 (end.1 ∙ sym stop.1)
        | inr goes ↦ let empty : [] ≡ 44 ∷ goes.0 = sym end.0 ∙ one.1 ∙ goes.1 in absurd (let f : ⊥ = cc in f)
      ]
      | inr goes ↦ elim t.2 [
        | inl stop ↦ let empty : [] ≡ 44 ∷ goes.0 = sym stop.0 ∙ sym one.1 ∙ goes.1 in absurd (let f : ⊥ = cc in f)
        | inr more ↦
            let tails : 44 ∷ goes.0 ≡ 44 ∷ more.0 = sym goes.1 ∙ one.1 ∙ more.1 in
            let same : goes.0 ≡ more.0 = cc in
            let P : List ℕ → Type 0 = λ m. SpellsPairs m a in
            ap₂ (λ (x : Pair) (xs : List Pair). x ∷ xs) one.0 (one_pairs more.0 a b (subst P same goes.2) more.2)
      ]
    ]

-- a text spells one map
pub one_map : (text : List ℕ) (a b : List Pair) → SpellsHstore text a → SpellsHstore text b → a ≡ b
one_map text a b s t =
    let pairs = one_pairs text s.pairs t.pairs s.spelled t.spelled in
    one_list a b s.is.is_map t.is.is_map (λ key. s.is.first key ∙ ap (find key) pairs ∙ sym (t.is.first key))

-- ---- what stands behind a pair is no longer than the text

shorter : (b : Bool) (c : ℕ) (cs cut : List ℕ) → length cut ≤ length cs → length (cond b cut (c ∷ cs)) ≤ suc (length cs)
shorter true c cs cut l = omega arith
shorter false c cs cut l = omega arith

length-without : (text : List ℕ) → length (without_leading_blank text) ≤ length text
length-without [] = omega arith
length-without (c ∷ cs) = shorter (is_ascii_whitespace c) c cs (without_leading_blank cs) (length-without cs)

length-signs : (quoted : Bool) (text bytes rest : List ℕ) → TakesSigns quoted text bytes rest → length rest ≤ length text
length-signs q text bytes rest t = omega (arith, ap length t.parts, length-append (written t.signs) rest)

length-string : (quoted : Bool) (text bytes rest : List ℕ) → TakesString quoted text bytes rest → length rest ≤ length text
length-string true text bytes rest t = omega (arith, ap length t.1, length-signs true t.0 bytes (34 ∷ rest) t.2)
length-string false text bytes rest t = length-signs false text bytes rest t.1

pub length-pair : (text : List ℕ) (p : Pair) (rest : List ℕ) → TakesPair text p rest → length rest ≤ length text
length-pair text p rest t =
    omega (
      arith,
      length-string t.key_quoted (without_leading_blank text) p.0 t.behind_key t.key,
      length-without text,
      length-without t.behind_key,
      ap length t.arrow,
      length-without t.behind_arrow,
      length-string t.value_quoted (without_leading_blank t.behind_arrow) t.value_bytes t.behind_value t.value,
      length-without t.behind_value,
      ap length t.behind,
    )
