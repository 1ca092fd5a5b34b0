-- Hexadecimal digits: what `hex` decodes is what pairs of digits write.
use Rattle.std.proofs.Common.{◌≡◌, ℕ, ◌+◌, ◌*◌, ◌%◌, ◌<◌, inl, inr, List, [], ◌∷◌, All, length, get_or, Option, Some, None, Result, Ok, Err, refl, sym, ◌∙◌, ap, subst, arith}
use Rattle.std.proofs.lemmas.List.Elements.{All-nil, All-cons, All-get_or}
use Rattle.std.proofs.lemmas.List.{get_or_past}
use Rattle.std.proofs.lemmas.Bool.{cases_lt}
use Rattle.std.proofs.lemmas.Bool.Decides.{nat_tests}
use Rattle.hex.specs.declared.error.FromHexError.{FromHexError}
use Rattle.hex.specs.Hex.{hex_digit_value, digit_or_error, ◌>>=◌, decode_pairs, decode_of, encode_lower}
use Rattle.hex.proofs.HexLemmas.{decode_of-even, decode_of-ok, decode_of-encode_lower}
use Rattle.gx_scalar.specs.Texts.{IsPair, ArePairs}

-- the step of `hex`'s decoder over two digits
abbrev combined : ℕ → ℕ → ℕ → Option ℕ → Option ℕ → Result (List ℕ) FromHexError → Result (List ℕ) FromHexError
combined high low i oh ol r = do
  byte ← do
    h ← digit_or_error high i oh
    l ← digit_or_error low (i + 1) ol
    Ok (h * 16 + l)
  bytes ← r
  Ok (byte ∷ bytes)

record Read (high low : ℕ) (r : Result (List ℕ) FromHexError) (bytes : List ℕ) : Type 0 where
  h : ℕ
  l : ℕ
  rest : List ℕ
  first : hex_digit_value high ≡ Some h
  second : hex_digit_value low ≡ Some l
  others : r ≡ Ok rest
  whole : bytes ≡ (h * 16 + l) ∷ rest

read_step : (high low i : ℕ) (oh ol : Option ℕ) (r : Result (List ℕ) FromHexError) (bytes : List ℕ) → hex_digit_value high ≡ oh → hex_digit_value low ≡ ol → combined high low i oh ol r ≡ Ok bytes → Read high low r bytes
read_step high low i (Some h) (Some l) (Ok rest) bytes eh el e = record { h = h; l = l; rest = rest; first = eh; second = el; others = refl; whole = cc }
read_step high low i None ol r bytes eh el e = absurd (cc e)
read_step high low i (Some h) None r bytes eh el e = absurd (cc e)
read_step high low i (Some h) (Some l) (Err fault) bytes eh el e = absurd (cc e)

decode_step : (i high low : ℕ) (rest : List ℕ) → decode_pairs i (high ∷ low ∷ rest) ≡ combined high low i (hex_digit_value high) (hex_digit_value low) (decode_pairs (i + 2) rest)
unfolding decode_pairs
decode_step i high low rest = refl

no_pair : (i c : ℕ) (bytes : List ℕ) → decode_pairs i (c ∷ []) ≡ Ok bytes → ⊥
unfolding decode_pairs
no_pair i c bytes e = cc e

no_bytes : (i : ℕ) (bytes : List ℕ) → decode_pairs i [] ≡ Ok bytes → bytes ≡ []
unfolding decode_pairs
no_bytes i bytes e = cc

none_pairs : (bytes : List ℕ) → bytes ≡ [] → ArePairs [] bytes
none_pairs [] e = tt
none_pairs (b ∷ bs) e = absurd (cc e)

pub pairs_read : (i : ℕ) (s bytes : List ℕ) → decode_pairs i s ≡ Ok bytes → ArePairs s bytes
pairs_read i [] bytes e = none_pairs bytes (no_bytes i bytes e)
pairs_read i (c ∷ []) bytes e = absurd (no_pair i c bytes e)
pairs_read i (high ∷ low ∷ rest) bytes e =
    let step = read_step high low i (hex_digit_value high) (hex_digit_value low) (decode_pairs (i + 2) rest) bytes refl refl (sym (decode_step i high low rest) ∙ e) in
    let pair : IsPair high low (step.h * 16 + step.l) = record { h = step.h; l = step.l; first = step.first; second = step.second; value = refl } in
    let P : List ℕ → Type 0 = λ t. ArePairs (high ∷ low ∷ rest) t in
    subst P (sym step.whole) (pair, pairs_read (i + 2) rest step.rest step.others)

combined_is : (high low i h l : ℕ) (oh ol : Option ℕ) (r : Result (List ℕ) FromHexError) (rest : List ℕ) → oh ≡ Some h → ol ≡ Some l → r ≡ Ok rest → combined high low i oh ol r ≡ Ok ((h * 16 + l) ∷ rest)
combined_is high low i h l oh ol r rest eh el er = rw (eh, el, er) refl

pub pairs_decode : (i : ℕ) (s bytes : List ℕ) → ArePairs s bytes → decode_pairs i s ≡ Ok bytes
unfolding decode_pairs
pairs_decode i [] [] p = refl
pairs_decode i [] (b ∷ bs) p = absurd p
pairs_decode i (c ∷ []) bytes p = absurd p
pairs_decode i (high ∷ low ∷ rest) [] p = absurd p
pairs_decode i (high ∷ low ∷ rest) (b ∷ bs) p =
    combined_is high low i p.0.h p.0.l (hex_digit_value high) (hex_digit_value low) (decode_pairs (i + 2) rest) bs p.0.first p.0.second (pairs_decode (i + 2) rest bs p.1)
    ∙ ap (λ x. Ok (x ∷ bs)) (sym p.0.value)

pairs_even : (s bytes : List ℕ) → ArePairs s bytes → length s % 2 ≡ 0
pairs_even [] [] p = refl
pairs_even [] (b ∷ bs) p = absurd p
pairs_even (c ∷ []) bytes p = absurd p
pairs_even (high ∷ low ∷ rest) [] p = absurd p
pairs_even (high ∷ low ∷ rest) (b ∷ bs) p = let even = pairs_even rest bs p.1 in omega arith

pub decoded_pairs : (s bytes : List ℕ) → decode_of s ≡ Ok bytes → ArePairs s bytes
decoded_pairs s bytes e = pairs_read 0 s bytes (sym (decode_of-even s (decode_of-ok s bytes e).0) ∙ e)

pub pairs_decoded : (s bytes : List ℕ) → ArePairs s bytes → decode_of s ≡ Ok bytes
pairs_decoded s bytes p = decode_of-even s (pairs_even s bytes p) ∙ pairs_decode 0 s bytes p

digit_small : (c h : ℕ) → hex_digit_value c ≡ Some h → h < 16
digit_small c h e = grind (arith, nat_tests)

pub pairs_small : (s bytes : List ℕ) → ArePairs s bytes → All (λ b. b < 256) bytes
pairs_small [] [] p = All-nil (λ b. b < 256)
pairs_small [] (b ∷ bs) p = absurd p
pairs_small (c ∷ []) [] p = absurd p
pairs_small (c ∷ []) (b ∷ bs) p = absurd p
pairs_small (high ∷ low ∷ rest) [] p = absurd p
pairs_small (high ∷ low ∷ rest) (b ∷ bs) p =
    let h = digit_small high p.0.h p.0.first in
    let l = digit_small low p.0.l p.0.second in
    All-cons (λ x. x < 256) b bs (omega (arith, p.0.value)) (pairs_small rest bs p.1)

-- one text of digits writes one list of bytes
pub one_bytes : (s a b : List ℕ) → ArePairs s a → ArePairs s b → a ≡ b
one_bytes s a b p q = let e = sym (pairs_decode 0 s a p) ∙ pairs_decode 0 s b q in cc

pub pairs_printed : (bytes : List ℕ) → All (λ b. b < 256) bytes → ArePairs (encode_lower bytes) bytes
pairs_printed bytes small = decoded_pairs (encode_lower bytes) bytes (decode_of-encode_lower bytes (λ i. byte_at bytes i small))
  where
    byte_at : (bytes : List ℕ) (i : ℕ) → All (λ b. b < 256) bytes → get_or bytes i 0 < 256
    byte_at bytes i small = elim (cases_lt i (length bytes)) [ inl inside ↦ All-get_or (λ b. b < 256) bytes i 0 inside small | inr past ↦ let zero_byte = get_or_past bytes i 0 past in omega arith ]
