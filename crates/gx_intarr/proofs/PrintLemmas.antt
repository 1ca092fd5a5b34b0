-- The printed text of an array, and that it spells the array.
use Rattle.std.proofs.Common.{◌≡◌, ◌≢◌, ℕ, suc, ◌-◌, ◌<◌, ◌≤◌, inl, inr, true, List, [], ◌∷◌, ◌++◌, length, map, get_or, take, refl, sym, ap, ◌∙◌, subst, arith, append_assoc, ne_eqb, codes, All, ℤ, pos, negsuc, decimal}
use Rattle.std.specs.Char.{is_ascii_whitespace, to_ascii_lowercase}
use Rattle.std.specs.List.{AllZip, AllByRecursion, flat_map}
use Rattle.std.specs.Fmt.{signed_decimal}
use Rattle.std.proofs.lemmas.List.{take_all}
use Rattle.std.proofs.lemmas.List.Elements.{All-weaker, recursion_from_All}
use Rattle.std.proofs.lemmas.Int.{ints}
use Rattle.std.proofs.lemmas.Fmt.{decimal_is_IsNumeral}
use Rattle.std.proofs.lemmas.Bool.Decides.{nat_tests}
use Rattle.gx_bytes.specs.Blanks.{IsBare}
use Rattle.gx_bytes.specs.Wholes.{SpellsWhole}
use Rattle.gx_bytes.proofs.BlankLemmas.{core_bare}
use Rattle.gx_bytes.proofs.WholeLemmas.{IsNumberByte, number_byte, numeral_bare, signed_bare, whole_bytes, whole_printed}
use Rattle.gx_intarr.specs.Texts.{is_plain, IsNullWord, SpellsElement, closed, braced}
use Rattle.gx_intarr.specs.Arrays.{IsInt4, IsArray, AreNumbers, SpellsArray, printed}

-- the numbers with a comma before each
abbrev pub with_commas : List ℤ → List ℕ
with_commas items = flat_map (λ n. 44 ∷ signed_decimal n) items

pub closed_numbers : (items : List ℤ) → closed (map signed_decimal items) ≡ with_commas items ++ 125 ∷ []
closed_numbers [] = refl
closed_numbers (n ∷ items) = ap (λ (x : List ℕ). 44 ∷ (signed_decimal n ++ x)) (closed_numbers items) ∙ ap (λ (x : List ℕ). 44 ∷ x) (sym (append_assoc (signed_decimal n) (with_commas items) (125 ∷ [])))

-- all numbers, and the closing brace
pub closed_end : (to start : List ℕ) (items : List ℤ) (n : ℕ) → length items ≤ n → to ≡ start ++ with_commas (take n items) → to ++ 125 ∷ [] ≡ start ++ closed (map signed_decimal items)
closed_end to start items n all e =
    ap (λ (t : List ℕ). t ++ 125 ∷ []) (e ∙ ap (λ (xs : List ℤ). start ++ with_commas xs) (take_all n items all)) ∙ append_assoc start (with_commas items) (125 ∷ []) ∙ ap (λ (t : List ℕ). start ++ t) (sym (closed_numbers items))

no_bar : (c : ℕ) → c ≢ 34 → c ≢ 92 → c ≢ 123 → c ≢ 125 → c ≢ 44 → is_plain c ≡ true
no_bar c a b d e f = rw (ne_eqb c 34 a, ne_eqb c 92 b, ne_eqb c 123 d, ne_eqb c 125 e, ne_eqb c 44 f) refl

plain_byte : (c : ℕ) → IsNumberByte c → is_plain c ≡ true
plain_byte c h =
    elim (number_byte c h) [
      | inl low ↦ no_bar c (omega arith) (omega arith) (omega arith) (omega arith) (omega arith)
      | inr (inl plus) ↦ no_bar c (omega arith) (omega arith) (omega arith) (omega arith) (omega arith)
      | inr (inr (inl minus)) ↦ no_bar c (omega arith) (omega arith) (omega arith) (omega arith) (omega arith)
      | inr (inr (inr digit)) ↦ no_bar c (omega arith) (omega arith) (omega arith) (omega arith) (omega arith)
    ]

-- no byte of a number is an `n` (110)
low_byte : (c : ℕ) → IsNumberByte c → c < 65
low_byte c h =
    elim (number_byte c h) [
      | inl low ↦ omega arith
      | inr (inl plus) ↦ omega arith
      | inr (inr (inl minus)) ↦ omega arith
      | inr (inr (inr digit)) ↦ omega arith
    ]

stays_low : (c : ℕ) → c < 65 → to_ascii_lowercase c ≡ c
stays_low c l = grind (arith, nat_tests)

not_null : (text : List ℕ) → AllByRecursion IsNumberByte text → IsNullWord text → ⊥
not_null [] p e = let all : [] ≡ codes "null" = e in omega (arith, ap length all)
not_null (c ∷ text) p e =
    let low = low_byte c p.0 in
    let head : to_ascii_lowercase c ≡ 110 = ap (λ (x : List ℕ). get_or x 0 0) e in
    omega (arith, low, stays_low c low, head)

bare_number : (n : ℤ) → IsInt4 n → IsBare (signed_decimal n) × (0 < length (signed_decimal n))
bare_number (pos n) w =
    let p = decimal_is_IsNumeral n (omega (arith, ints, w.1)) in
    (numeral_bare (decimal n) p.0, p.0.0)
bare_number (negsuc n) w =
    let p = decimal_is_IsNumeral (suc n) (omega (arith, ints, w.0)) in
    (signed_bare (decimal (suc n)) p.0, omega arith)

element_printed : (n : ℤ) → IsInt4 n → SpellsWhole (signed_decimal n) n → SpellsElement (signed_decimal n) (signed_decimal n)
element_printed n w s =
    let text = signed_decimal n in
    let bytes : All IsNumberByte text = whole_bytes text n s in
    let bare = bare_number n w in
    inr record {
      plain = recursion_from_All (λ c. is_plain c ≡ true) text (All-weaker IsNumberByte (λ c. is_plain c ≡ true) plain_byte text bytes);
      core = sym (core_bare text bare.0);
      some = bare.1;
      not_null = not_null text (recursion_from_All IsNumberByte text bytes);
    }

spelled : (n : ℤ) → IsInt4 n → SpellsWhole (signed_decimal n) n
spelled n w = whole_printed n (omega (arith, ints, w.0), omega (arith, ints, w.1))

each_element : (items : List ℤ) → IsArray items → AllZip SpellsElement (map signed_decimal items) (map signed_decimal items)
each_element [] p = tt
each_element (n ∷ items) p = (element_printed n p.0 (spelled n p.0), each_element items p.1)

each_number : (items : List ℤ) → IsArray items → AreNumbers (map signed_decimal items) items
each_number [] p = tt
each_number (n ∷ items) p = ((spelled n p.0, p.0), each_number items p.1)

-- a text in braces has no white space at its ends
last_of : (c : ℕ) (front : List ℕ) (d : ℕ) → get_or (c ∷ (front ++ d ∷ [])) (length (c ∷ (front ++ d ∷ [])) - 1) 0 ≡ d
last_of c [] d = refl
last_of c (x ∷ front) d =
    let size : length (c ∷ x ∷ (front ++ d ∷ [])) - 1 ≡ suc (length (x ∷ (front ++ d ∷ [])) - 1) = omega arith in
    ap (λ (k : ℕ). get_or (c ∷ x ∷ (front ++ d ∷ [])) k 0) size ∙ last_of x front d

braced_front : (raws : List (List ℕ)) → (front : List ℕ) × (closed raws ≡ front ++ 125 ∷ [])
braced_front [] = ([], refl)
braced_front (raw ∷ raws) =
    let more = braced_front raws in
    (44 ∷ (raw ++ more.0), ap (λ (x : List ℕ). 44 ∷ (raw ++ x)) more.1 ∙ ap (λ (x : List ℕ). 44 ∷ x) (sym (append_assoc raw more.0 (125 ∷ []))))

bare_braces : (front : List ℕ) → IsBare (123 ∷ (front ++ 125 ∷ []))
bare_braces front = record { first = refl; last = ap is_ascii_whitespace (last_of 123 front 125) }

bare_braced : (raws : List (List ℕ)) → IsBare (braced raws)
bare_braced [] = bare_braces []
bare_braced (raw ∷ raws) =
    let more = braced_front raws in
    let whole : 123 ∷ ((raw ++ more.0) ++ 125 ∷ []) ≡ braced (raw ∷ raws) = ap (λ (x : List ℕ). 123 ∷ x) (append_assoc raw more.0 (125 ∷ []) ∙ ap (λ (x : List ℕ). raw ++ x) (sym more.1)) in
    subst IsBare whole (bare_braces (raw ++ more.0))

pub printed_again : (items : List ℤ) → IsArray items → SpellsArray (printed items) items
printed_again items p = record {
  texts = map signed_decimal items;
  spelled = record { raws = map signed_decimal items; parts = core_bare (printed items) (bare_braced (map signed_decimal items)); each = each_element items p };
  numbers = each_number items p;
}
