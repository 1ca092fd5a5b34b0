-- A text has one answer, and a valid tree no fault.
use Rattle.std.proofs.Common.{◌≡◌, ◌≢◌, ℕ, ◌^◌, nat_lt, is_some, pos, negsuc, true, true≢false, List, [], ◌∷◌, Option, None, Some, Result, Ok, Err, ℤ, inl, inr, refl, sym, ap, ◌∙◌, subst, arith}
use Rattle.std.specs.List.{AllByRecursion}
use Rattle.gx_bytes.specs.declared.error.ValueError.{ValueError}
use Rattle.gx_bytes.specs.declared.error.ValueError.TheVariants.{NoValue, OutOfRange, TooDeep, Memory}
use Rattle.gx_bytes.specs.Wholes.{IsWithin, IsOutside}
use Rattle.std.proofs.lemmas.Int.{ints}
use Rattle.serde_json.specs.Data.{Num, unsigned, negative, float, Data, null, boolean, number, string, array, object, Items, no_items, item, Members, no_members, member}
use Rattle.serde_json.specs.Find.{as_i64}
use Rattle.std.proofs.lemmas.Bool.Decides.{nat_tests}
use Rattle.gx_json.specs.Valid.{all_whole, items_whole, members_whole, IsWholeNumber, IsStored, AreStored, MembersStored, IsDocument}
use Rattle.serde_json.specs.Read.{read}
use Rattle.gx_json.specs.Scan.{outside, runs, IsInteger, HasFault, HasFirstFault, least, greatest, number_of}
use Rattle.gx_json.specs.Text.{PassesText, IsTextFault, PassesValue, IsValueFault, IsReadFault, IsFault, AnswersJson}

not_within : (n : ℤ) → IsOutside least greatest n → IsWithin least greatest n → ⊥
not_within n out within = elim out [ inl below ↦ omega (arith, ints, below, within.0) | inr above ↦ omega (arith, ints, above, within.1) ]

faulty_integer : (run : List ℕ) (e : ValueError) → HasFault run e → IsInteger run → ⊥
faulty_integer run NoValue h i = h i.whole
faulty_integer run OutOfRange h i = not_within (number_of run) h.1 i.within
faulty_integer run TooDeep h i = h
faulty_integer run Memory h i = h

one_run_fault : (run : List ℕ) (e f : ValueError) → HasFault run e → HasFault run f → e ≡ f
one_run_fault run NoValue NoValue h g = refl
one_run_fault run NoValue OutOfRange h g = absurd (h g.0)
one_run_fault run OutOfRange NoValue h g = absurd (g h.0)
one_run_fault run OutOfRange OutOfRange h g = refl
one_run_fault run TooDeep f h g = absurd h
one_run_fault run Memory f h g = absurd h
one_run_fault run e TooDeep h g = absurd g
one_run_fault run e Memory h g = absurd g

one_first_fault : (rs : List (List ℕ)) (e f : ValueError) → HasFirstFault rs e → HasFirstFault rs f → e ≡ f
one_first_fault [] e f h g = absurd h
one_first_fault (run ∷ rs) e f h g = elim h [
  | inl x ↦ elim g [ inl y ↦ one_run_fault run e f x y | inr y ↦ absurd (faulty_integer run e x y.0) ]
  | inr x ↦ elim g [ inl y ↦ absurd (faulty_integer run f y x.0) | inr y ↦ one_first_fault rs e f x.1 y.1 ]
]

first_fault_passes : (rs : List (List ℕ)) (e : ValueError) → HasFirstFault rs e → AllByRecursion IsInteger rs → ⊥
first_fault_passes [] e h all = h
first_fault_passes (run ∷ rs) e h all = elim h [ inl x ↦ faulty_integer run e x all.0 | inr x ↦ first_fault_passes rs e x.1 all.1 ]

text_fault_passes : (text : List ℕ) (e : ValueError) → IsTextFault text e → PassesText text → ⊥
text_fault_passes text NoValue h p = first_fault_passes (runs (outside text)) NoValue h.1 p.integers
text_fault_passes text OutOfRange h p = first_fault_passes (runs (outside text)) OutOfRange h.1 p.integers
text_fault_passes text TooDeep h p = p.few h
text_fault_passes text Memory h p = h

one_text_fault : (text : List ℕ) (e f : ValueError) → IsTextFault text e → IsTextFault text f → e ≡ f
one_text_fault text NoValue NoValue h g = refl
one_text_fault text NoValue OutOfRange h g = one_first_fault (runs (outside text)) NoValue OutOfRange h.1 g.1
one_text_fault text NoValue TooDeep h g = absurd (h.0 g)
one_text_fault text NoValue Memory h g = absurd g
one_text_fault text OutOfRange NoValue h g = one_first_fault (runs (outside text)) OutOfRange NoValue h.1 g.1
one_text_fault text OutOfRange OutOfRange h g = refl
one_text_fault text OutOfRange TooDeep h g = absurd (h.0 g)
one_text_fault text OutOfRange Memory h g = absurd g
one_text_fault text TooDeep NoValue h g = absurd (g.0 h)
one_text_fault text TooDeep OutOfRange h g = absurd (g.0 h)
one_text_fault text TooDeep TooDeep h g = refl
one_text_fault text TooDeep Memory h g = absurd g
one_text_fault text Memory f h g = absurd h

value_fault_passes : (d : Data) (e : ValueError) → IsValueFault d e → PassesValue d → ⊥
value_fault_passes d NoValue h p = true≢false (sym h.2 ∙ p.plain)
value_fault_passes d OutOfRange h p = true≢false (sym p.whole ∙ h.1)
value_fault_passes d TooDeep h p = omega (arith, p.shallow, h)
value_fault_passes d Memory h p = h

one_value_fault : (d : Data) (e f : ValueError) → IsValueFault d e → IsValueFault d f → e ≡ f
one_value_fault d NoValue NoValue h g = refl
one_value_fault d NoValue OutOfRange h g = absurd (true≢false (sym h.1 ∙ g.1))
one_value_fault d NoValue TooDeep h g = absurd (omega (arith, h.0, g))
one_value_fault d NoValue Memory h g = absurd g
one_value_fault d OutOfRange NoValue h g = absurd (true≢false (sym g.1 ∙ h.1))
one_value_fault d OutOfRange OutOfRange h g = refl
one_value_fault d OutOfRange TooDeep h g = absurd (omega (arith, h.0, g))
one_value_fault d OutOfRange Memory h g = absurd g
one_value_fault d TooDeep NoValue h g = absurd (omega (arith, h, g.0))
one_value_fault d TooDeep OutOfRange h g = absurd (omega (arith, h, g.0))
one_value_fault d TooDeep TooDeep h g = refl
one_value_fault d TooDeep Memory h g = absurd g
one_value_fault d Memory f h g = absurd h

whole_number : (n : Num) → IsWholeNumber n → is_some (as_i64 n) ≡ true
whole_number (unsigned n) h = let fits : nat_lt n (2 ^ 63) ≡ true = grind (arith, nat_tests, h) in rw fits refl
whole_number (negative (pos n)) h = absurd h
whole_number (negative (negsuc n)) h = refl
whole_number (float x) h = absurd h

mutual
  pub stored_whole : (d : Data) → IsStored d → all_whole d ≡ true
  stored_whole null h = refl
  stored_whole (boolean b) h = refl
  stored_whole (number n) h = whole_number n h
  stored_whole (string s) h = refl
  stored_whole (array ds) h = items_stored_whole ds h
  stored_whole (object ms) h = members_stored_whole ms h.1

  items_stored_whole : (ds : Items) → AreStored ds → items_whole ds ≡ true
  items_stored_whole no_items h = refl
  items_stored_whole (item d ds) h = let one = stored_whole d h.0 in rw one (items_stored_whole ds h.1)

  members_stored_whole : (ms : Members) → MembersStored ms → members_whole ms ≡ true
  members_stored_whole no_members h = refl
  members_stored_whole (member k d ms) h = let one = stored_whole d h.0.1 in rw one (members_stored_whole ms h.1)

pub no_valid_fault : (d : Data) (e : ValueError) → IsValueFault d e → IsDocument d → ⊥
no_valid_fault d e h valid =
    value_fault_passes d e h (record { shallow = valid.shallow; whole = stored_whole d valid.stored; plain = valid.plain })

same_some : {A : Type 0} (o : Option A) (a b : A) → o ≡ Some a → o ≡ Some b → a ≡ b
same_some o a b p q = let e : Some a ≡ Some b = sym p ∙ q in cc

none_some : {A : Type 0} (o : Option A) (a : A) → o ≡ None → o ≡ Some a → ⊥
none_some o a p q = let e : Some a ≡ None = sym q ∙ p in cc

one_read_fault : (text : List ℕ) (e f : ValueError) → IsReadFault text e → IsReadFault text f → e ≡ f
one_read_fault text e f h g = elim h [
  | inl x ↦ elim g [ inl y ↦ x.0 ∙ sym y.0 | inr y ↦ absurd (none_some (read text) y.0 x.1 y.1) ]
  | inr x ↦ elim g [
    | inl y ↦ absurd (none_some (read text) x.0 y.1 x.1)
    | inr y ↦ one_value_fault x.0 e f x.2 (subst (λ (d : Data). IsValueFault d f) (same_some (read text) y.0 x.0 y.1 x.1) y.2)
  ]
]

one_fault : (text : List ℕ) (e f : ValueError) → IsFault text e → IsFault text f → e ≡ f
one_fault text e f h g = elim h [
  | inl x ↦ elim g [ inl y ↦ one_text_fault text e f x y | inr y ↦ absurd (text_fault_passes text e x y.0) ]
  | inr x ↦ elim g [ inl y ↦ absurd (text_fault_passes text f y x.0) | inr y ↦ one_read_fault text e f x.1 y.1 ]
]

fault_passes : (text : List ℕ) (e : ValueError) (d : Data) → IsFault text e → AnswersJson text (Ok d) → ⊥
fault_passes text e d h a = elim h [
  | inl x ↦ text_fault_passes text e x a.0
  | inr x ↦ elim x.1 [
    | inl y ↦ none_some (read text) d y.1 a.1
    | inr y ↦ value_fault_passes d e (subst (λ (t : Data). IsValueFault t e) (same_some (read text) y.0 d y.1 a.1) y.2) a.2
  ]
]

fault_of : (text : List ℕ) (e : ValueError) → e ≢ Memory → AnswersJson text (Err e) → IsFault text e
fault_of text NoValue other a = a
fault_of text OutOfRange other a = a
fault_of text TooDeep other a = a
fault_of text Memory other a = absurd (other refl)

pub one_answer : (text : List ℕ) (r s : Result Data ValueError) → r ≢ Err Memory → s ≢ Err Memory → AnswersJson text r → AnswersJson text s → r ≡ s
one_answer text (Ok d) (Ok e) p q a b = ap Ok (same_some (read text) d e a.1 b.1)
one_answer text (Ok d) (Err f) p q a b = absurd (fault_passes text f d (fault_of text f (λ same. q (ap Err same)) b) a)
one_answer text (Err e) (Ok d) p q a b = absurd (fault_passes text e d (fault_of text e (λ same. p (ap Err same)) a) b)
one_answer text (Err e) (Err f) p q a b = ap Err (one_fault text e f (fault_of text e (λ same. p (ap Err same)) a) (fault_of text f (λ same. q (ap Err same)) b))
