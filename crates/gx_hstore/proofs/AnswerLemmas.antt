-- What each answer of the reader says, and that the keys and values of a text are text.
use Rattle.std.proofs.Common.{◌≡◌, ℕ, zero, suc, ◌+◌, ◌<◌, Bool, true, false, cond, not, ◌&&◌, inl, inr, List, [], ◌∷◌, ◌++◌, map, length, length-append, get_or, take, drop, Option, None, Some, IfSome, All, IsUtf8, bytes_eq, codes, refl, sym, ap, ap₂, ◌∙◌, subst, arith, append_assoc, append-nil, add-one, IsAscii, lit<}
use Rattle.std.specs.List.{AllByRecursion}
use Rattle.std.specs.Char.{is_ascii_whitespace, to_ascii_lowercase}
use Rattle.std.proofs.lemmas.Bool.Decides.{nat_tests}
use Rattle.std.proofs.lemmas.Map.Entries.{lookup_from_place}
use Rattle.std.proofs.lemmas.Option.{slice_get-get_or}
use Rattle.std.proofs.lemmas.Slice.Eq.{bytes_eq-Decides}
use Rattle.std.proofs.lemmas.Str.{IsUtf8-nil, IsUtf8-append, IsUtf8-take, IsUtf8-drop, IsUtf8-from_ascii, IsCharBoundary-before_ascii, IsCharBoundary-after_ascii}
use Rattle.gx_bytes.specs.Blanks.{without_leading_blank}
use Rattle.gx_bytes.proofs.SingleAnswers.{IsSingle}
use Rattle.gx_hstore.specs.Map.{Pair, IsMapOf, IsTextPair, IsHstore, find}
use Rattle.gx_hstore.specs.Text.{Sign, Plain, Escaped, written, meant, ends, Stops, TakesSigns, TakesString, value_of, TakesPair, SpellsPairs, SpellsHstore, AnswersHstore}
use Rattle.gx_hstore.proofs.OrderLemmas.{bytes_equiv}
use Rattle.gx_hstore.proofs.MapLemmas.{distinct}
use Rattle.gx_hstore.proofs.PairLemmas.{one_pairs, one_map}

-- white space alone
pub blank_only : (text : List ℕ) (pairs : List Pair) → SpellsPairs text pairs → length pairs ≡ 0 → 0 < length text → (hstore : List Pair) → SpellsHstore text hstore → ⊥
blank_only text pairs spelled none some hstore s =
    omega (arith, some, ap length (s.empty (one_pairs text s.pairs pairs s.spelled spelled ∙ empty pairs none)))
  where
    empty : (xs : List Pair) → length xs ≡ 0 → xs ≡ []
    empty [] e = refl
    empty (x ∷ xs) e = absurd (omega arith)

pub single_answer : (text : List ℕ) → IsSingle (AnswersHstore text)
single_answer text = record {
  one = one_map text;
  no_value = λ v p q. q v p;
  out_of_range = λ v p q. q;
  too_deep = λ v p q. q;
  none_or_out = λ p q. q;
  none_or_deep = λ p q. q;
  out_or_deep = λ p q. q;
}

-- ---- a text that is cut at bytes of ASCII

at_seam : (xs : List ℕ) (c : ℕ) (ys : List ℕ) → get_or (xs ++ c ∷ ys) (length xs) 0 ≡ c
at_seam [] c ys = refl
at_seam (x ∷ xs) c ys = at_seam xs c ys

take_seam : (xs ys : List ℕ) → take (length xs) (xs ++ ys) ≡ xs
take_seam [] [] = refl
take_seam [] (y ∷ ys) = refl
take_seam (x ∷ xs) ys = ap (λ (t : List ℕ). x ∷ t) (take_seam xs ys)

drop_seam : (xs : List ℕ) (c : ℕ) (ys : List ℕ) → drop (suc (length xs)) (xs ++ c ∷ ys) ≡ ys
drop_seam [] c [] = refl
drop_seam [] c (y ∷ ys) = refl
drop_seam (x ∷ xs) c ys = drop_seam xs c ys

-- what stands before and behind a byte of ASCII is text
cut_ascii : (xs : List ℕ) (c : ℕ) (ys : List ℕ) → c < 128 → IsUtf8 (xs ++ c ∷ ys) → IsUtf8 xs × IsUtf8 ys
cut_ascii xs c ys small u =
    let text = xs ++ c ∷ ys in
    let within : length xs < length text = omega (arith, length-append xs (c ∷ ys)) in
    let ascii : get_or text (length xs) 0 < 128 = omega (arith, at_seam xs c ys, small) in
    let front = IsUtf8-take text (length xs) u (IsCharBoundary-before_ascii text (length xs) within ascii) in
    let back = IsUtf8-drop text (length xs + 1) u (IsCharBoundary-after_ascii text (length xs) u within ascii) in
    (subst IsUtf8 (take_seam xs (c ∷ ys)) front, subst IsUtf8 (ap (λ (n : ℕ). drop n text) (add-one (length xs)) ∙ drop_seam xs c ys) back)

one_ascii : (c : ℕ) → c < 128 → IsUtf8 (c ∷ [])
one_ascii c small = IsUtf8-from_ascii (c ∷ []) ascii
  where
    ascii : IsAscii (c ∷ [])
    ascii zero = small
    ascii (suc i) = lit< tt

behind_ascii : (c : ℕ) (ys : List ℕ) → c < 128 → IsUtf8 (c ∷ ys) → IsUtf8 ys
behind_ascii c ys small u = (cut_ascii [] c ys small u).1

blank_small : (c : ℕ) → is_ascii_whitespace c ≡ true → c < 128
blank_small c e = grind (arith, nat_tests)

ends_small : (quoted : Bool) (c : ℕ) → ends quoted c ≡ true → c < 128
ends_small true c e = grind (arith, nat_tests)
ends_small false c e = grind (arith, nat_tests)

without_blank_text : (text : List ℕ) → IsUtf8 text → IsUtf8 (without_leading_blank text)
without_blank_text [] u = u
without_blank_text (c ∷ cs) u =
    elim (is_ascii_whitespace c) as (λ b. is_ascii_whitespace c ≡ b → IsUtf8 (cond b (without_leading_blank cs) (c ∷ cs))) [
      | true ↦ λ e. without_blank_text cs (behind_ascii c cs (blank_small c e) u)
      | false ↦ λ e. u
    ] refl

-- ---- the bytes that signs stand for, and the rest

signs_text : (quoted : Bool) (front : List ℕ) (signs : List Sign) (rest : List ℕ) → Stops quoted rest → IsUtf8 (front ++ (written signs ++ rest)) → IsUtf8 (front ++ meant signs) × IsUtf8 rest
signs_text q front [] [] s u = (u, IsUtf8-nil)
signs_text q front [] (c ∷ rest) s u =
    let small = ends_small q c s in
    let cut = cut_ascii front c rest small u in
    (subst IsUtf8 (sym (append-nil front)) cut.0, IsUtf8-append (c ∷ []) rest (one_ascii c small) cut.1)
signs_text q front (Plain c ∷ signs) rest s u =
    let more = signs_text q (front ++ c ∷ []) signs rest s (subst IsUtf8 (sym (append_assoc front (c ∷ []) (written signs ++ rest))) u) in
    (subst IsUtf8 (append_assoc front (c ∷ []) (meant signs)) more.0, more.1)
signs_text q front (Escaped c ∷ signs) rest s u =
    let cut = cut_ascii front 92 (c ∷ (written signs ++ rest)) (lit< tt) u in
    let more = signs_text q (c ∷ []) signs rest s cut.1 in
    (IsUtf8-append front (c ∷ meant signs) cut.0 more.0, more.1)

run_text : (quoted : Bool) (text bytes rest : List ℕ) → TakesSigns quoted text bytes rest → IsUtf8 text → IsUtf8 bytes × IsUtf8 rest
run_text q text bytes rest t u =
    let both = signs_text q [] t.signs rest t.stops (subst IsUtf8 t.parts u) in
    (subst IsUtf8 (sym t.value) both.0, both.1)

string_text : (quoted : Bool) (text bytes rest : List ℕ) → TakesString quoted text bytes rest → IsUtf8 text → IsUtf8 bytes × IsUtf8 rest
string_text true text bytes rest t u =
    let both = run_text true t.0 bytes (34 ∷ rest) t.2 (behind_ascii 34 t.0 (lit< tt) (subst IsUtf8 t.1 u)) in
    (both.0, behind_ascii 34 rest (lit< tt) both.1)
string_text false text bytes rest t u = run_text false text bytes rest t.1 u

value_text : (quoted : Bool) (bytes : List ℕ) → IsUtf8 bytes → IfSome (value_of quoted bytes) IsUtf8
value_text q bytes u =
    elim (not q && bytes_eq (map to_ascii_lowercase bytes) (codes "null")) as (λ b. IfSome (cond b None (Some bytes)) IsUtf8) [ true ↦ tt | false ↦ u ]

pair_text : (text : List ℕ) (p : Pair) (rest : List ℕ) → TakesPair text p rest → IsUtf8 text → IsTextPair p × IsUtf8 rest
pair_text text p rest t u =
    let key = string_text t.key_quoted (without_leading_blank text) p.0 t.behind_key t.key (without_blank_text text u) in
    let arrow = subst IsUtf8 t.arrow (without_blank_text t.behind_key key.1) in
    let behind = behind_ascii 62 t.behind_arrow (lit< tt) (behind_ascii 61 (62 ∷ t.behind_arrow) (lit< tt) arrow) in
    let value = string_text t.value_quoted (without_leading_blank t.behind_arrow) t.value_bytes t.behind_value t.value (without_blank_text t.behind_arrow behind) in
    let P : Option (List ℕ) → Type 0 = λ v. IfSome v IsUtf8 in
    (record { key = key.0; value = subst P (sym t.stands_for) (value_text t.value_quoted t.value_bytes value.0) }, subst IsUtf8 (sym t.behind) (without_blank_text t.behind_value value.1))

pairs_text : (text : List ℕ) (pairs : List Pair) → SpellsPairs text pairs → IsUtf8 text → AllByRecursion IsTextPair pairs
pairs_text text [] s u = tt
pairs_text text (p ∷ pairs) s u =
    let both = pair_text text p s.0 s.1 u in
    elim s.2 [
      | inl end ↦ (both.0, subst (AllByRecursion IsTextPair) (sym end.1) tt)
      | inr goes ↦ (both.0, pairs_text goes.0 pairs goes.2 (behind_ascii 44 goes.0 (lit< tt) (subst IsUtf8 goes.1 both.1)))
    ]

-- ---- the pairs of the map are among those of the text

same_Some : {A : Type 0} (x y : A) → Some x ≡ Some y → x ≡ y
same_Some x y e = cc

found_text : (key : List ℕ) (value : Option (List ℕ)) (pairs : List Pair) → AllByRecursion IsTextPair pairs → find key pairs ≡ Some value → IsTextPair (key, value)
found_text key value [] a e = let f : ⊥ = cc in absurd f
found_text key value (p ∷ pairs) a e =
    elim (bytes_eq key p.0) as (λ b. bytes_eq key p.0 ≡ b → cond b (Some p.1) (find key pairs) ≡ Some value → IsTextPair (key, value)) [
      | true ↦ λ t is. subst IsTextPair (ap₂ (λ (k : List ℕ) (v : Option (List ℕ)). (k, v)) (sym ((bytes_eq-Decides key p.0).0 t)) (same_Some p.1 value is)) a.0
      | false ↦ λ t is. found_text key value pairs a.1 is
    ] refl e

map_text : (pairs hstore : List Pair) → IsMapOf pairs hstore → AllByRecursion IsTextPair pairs → All IsTextPair hstore
map_text pairs hstore is all k d within =
    let p = get_or hstore k d in
    found_text p.0 p.1 pairs all (sym (is.first p.0) ∙ lookup_from_place bytes_equiv hstore k p.0 p.1 (distinct hstore is.is_map) (slice_get-get_or hstore k d within))

-- the map of a text is valid
pub valid_map : (text : List ℕ) (hstore : List Pair) → IsUtf8 text → SpellsHstore text hstore → IsHstore hstore
valid_map text hstore u s = record {
  is_map = s.is.is_map;
  texts = map_text s.pairs hstore s.is (pairs_text text s.pairs s.spelled u);
}
