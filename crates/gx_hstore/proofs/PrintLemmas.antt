-- The printed text of a map spells it.
use Rattle.std.proofs.Common.{◌≡◌, ◌≢◌, ◌==◌, ℕ, ◌<◌, Bool, true, false, cond, ◌||◌, inl, inr, List, [], ◌∷◌, ◌++◌, codes, flat_map, Option, None, Some, refl, sym, ap, ◌∙◌, subst, true≢false, arith, append_assoc, lit<}
use Rattle.gx_bytes.specs.Blanks.{without_leading_blank}
use Rattle.gx_hstore.specs.Map.{Pair, IsMap}
use Rattle.gx_hstore.specs.Text.{Sign, Plain, Escaped, written, meant, AreInside, Stops, TakesString, value_of, TakesPair, SpellsPairs, SpellsHstore}
use Rattle.gx_hstore.specs.Printing.{escaped, in_quotes, printed_value, printed_pair, printed}

-- each byte as it is printed
abbrev sign_of : Bool → ℕ → Sign
sign_of true c = Escaped c
sign_of false c = Plain c

abbrev signs_of : List ℕ → List Sign
signs_of [] = []
signs_of (c ∷ bytes) = sign_of (c == 34 || c == 92) c ∷ signs_of bytes

written_sign : (b : Bool) (c : ℕ) (signs : List Sign) → written (sign_of b c ∷ signs) ≡ cond b (92 ∷ c ∷ []) (c ∷ []) ++ written signs
written_sign true c signs = refl
written_sign false c signs = refl

meant_sign : (b : Bool) (c : ℕ) (signs : List Sign) → meant (sign_of b c ∷ signs) ≡ c ∷ meant signs
meant_sign true c signs = refl
meant_sign false c signs = refl

written_signs : (bytes : List ℕ) → written (signs_of bytes) ≡ flat_map escaped bytes
written_signs [] = refl
written_signs (c ∷ bytes) =
    written_sign (c == 34 || c == 92) c (signs_of bytes) ∙ ap (λ (t : List ℕ). cond (c == 34 || c == 92) (92 ∷ c ∷ []) (c ∷ []) ++ t) (written_signs bytes)

meant_signs : (bytes : List ℕ) → bytes ≡ meant (signs_of bytes)
meant_signs [] = refl
meant_signs (c ∷ bytes) = ap (λ (t : List ℕ). c ∷ t) (meant_signs bytes) ∙ sym (meant_sign (c == 34 || c == 92) c (signs_of bytes))

first_false : (a b : Bool) → (a || b) ≡ false → a ≡ false
first_false true b e = e
first_false false b e = refl

second_false : (a b : Bool) → (a || b) ≡ false → b ≡ false
second_false true b e = absurd (true≢false e)
second_false false b e = e

inside_sign : (b : Bool) (c : ℕ) (signs : List Sign) → (c == 34 || c == 92) ≡ b → AreInside true signs → AreInside true (sign_of b c ∷ signs)
inside_sign true c signs e i = i
inside_sign false c signs e i =
    (first_false (c == 34) (c == 92) e, (λ is. true≢false (sym (ap (λ (x : ℕ). x == 92) is) ∙ second_false (c == 34) (c == 92) e)), i)

inside_signs : (bytes : List ℕ) → AreInside true (signs_of bytes)
inside_signs [] = tt
inside_signs (c ∷ bytes) = inside_sign (c == 34 || c == 92) c (signs_of bytes) refl (inside_signs bytes)

-- a string in quotes is the string
quotes : (bytes rest : List ℕ) → TakesString true (in_quotes bytes ++ rest) bytes rest
quotes bytes rest = (
  (flat_map escaped bytes ++ 34 ∷ []) ++ rest,
  refl,
  record {
    signs = signs_of bytes;
    inside = inside_signs bytes;
    parts = append_assoc (flat_map escaped bytes) (34 ∷ []) rest ∙ ap (λ (t : List ℕ). t ++ 34 ∷ rest) (sym (written_signs bytes));
    stops = refl;
    value = meant_signs bytes;
  },
)

-- the pairs behind the first, with a comma and a space before each
abbrev pub more : List Pair → List ℕ
more pairs = flat_map (λ (pair : Pair). codes ", " ++ printed_pair pair) pairs

more_bare : (pairs : List Pair) → more pairs ≡ without_leading_blank (more pairs)
more_bare [] = refl
more_bare (p ∷ pairs) = refl

more_stops : (pairs : List Pair) → Stops false (more pairs)
more_stops [] = tt
more_stops (p ∷ pairs) = refl

plain : (c : ℕ) → c < 92 → c ≢ 92
plain c small e = omega (arith, small, e)

null_word : (pairs : List Pair) → TakesString false (codes "NULL" ++ more pairs) (codes "NULL") (more pairs)
null_word pairs = (
  lit< tt,
  record {
    signs = Plain 78 ∷ Plain 85 ∷ Plain 76 ∷ Plain 76 ∷ [];
    inside = (refl, plain 78 (lit< tt), (refl, plain 85 (lit< tt), (refl, plain 76 (lit< tt), (refl, plain 76 (lit< tt), tt))));
    parts = refl;
    stops = more_stops pairs;
    value = refl;
  },
)

-- the value as it is printed
pub record Printed (value : Option (List ℕ)) (pairs : List Pair) : Type 0 where
  pub quoted : Bool
  pub bytes : List ℕ
  pub taken : TakesString quoted (without_leading_blank (printed_value value ++ more pairs)) bytes (more pairs)
  pub stands_for : value ≡ value_of quoted bytes

printed_is : (value : Option (List ℕ)) (pairs : List Pair) → Printed value pairs
printed_is None pairs = record { quoted = false; bytes = codes "NULL"; taken = null_word pairs; stands_for = refl }
printed_is (Some value) pairs = record { quoted = true; bytes = value; taken = quotes value (more pairs); stands_for = refl }

pair_printed : (text : List ℕ) (p : Pair) (pairs : List Pair) → without_leading_blank text ≡ printed_pair p ++ more pairs → TakesPair text p (more pairs)
pair_printed text p pairs e =
    let value = printed_is p.1 pairs in
    let behind = printed_value p.1 ++ more pairs in
    let P : List ℕ → Type 0 = λ t. TakesString true t p.0 (61 ∷ 62 ∷ behind) in
    let whole : without_leading_blank text ≡ in_quotes p.0 ++ (61 ∷ 62 ∷ behind) = e ∙ append_assoc (in_quotes p.0) (codes "=>" ++ printed_value p.1) (more pairs) in
    record {
      key_quoted = true;
      behind_key = 61 ∷ 62 ∷ behind;
      key = subst P (sym whole) (quotes p.0 (61 ∷ 62 ∷ behind));
      behind_arrow = behind;
      arrow = refl;
      value_quoted = value.quoted;
      value_bytes = value.bytes;
      behind_value = more pairs;
      value = value.taken;
      stands_for = value.stands_for;
      behind = more_bare pairs;
    }

pairs_printed : (text : List ℕ) (p : Pair) (pairs : List Pair) → without_leading_blank text ≡ printed_pair p ++ more pairs → SpellsPairs text (p ∷ pairs)
pairs_printed text p [] e = (more [], pair_printed text p [] e, inl (refl, refl))
pairs_printed text p (q ∷ pairs) e =
    (more (q ∷ pairs), pair_printed text p (q ∷ pairs) e, inr (32 ∷ (printed_pair q ++ more pairs), refl, pairs_printed (32 ∷ (printed_pair q ++ more pairs)) q pairs refl))

all_printed : (hstore : List Pair) → SpellsPairs (printed hstore) hstore
all_printed [] = refl
all_printed (p ∷ pairs) = pairs_printed (printed (p ∷ pairs)) p pairs refl

pub spelled_again : (hstore : List Pair) → IsMap hstore → SpellsHstore (printed hstore) hstore
spelled_again hstore h = record {
  pairs = hstore;
  spelled = all_printed hstore;
  empty = λ e. ap printed e;
  is = record { is_map = h; first = λ key. refl };
}
