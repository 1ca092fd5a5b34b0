-- A printed text passes the checks on what is outside of its strings.
use Rattle.std.proofs.Common.{◌≡◌, ◌≢◌, ℕ, zero, suc, ◌+◌, ◌-◌, ◌/◌, ◌%◌, ◌^◌, ◌<◌, ◌≤◌, nat_lt, Bool, true, false, List, [], ◌∷◌, ◌++◌, take, slice_index, fold, decimal, pos, negsuc, neg_ℤ, inl, inr, refl, sym, ap, ◌∙◌, subst, arith, append_assoc, append-nil}
use Rattle.std.specs.Char.{digit_char}
use Rattle.std.specs.List.{AllByRecursion}
use Rattle.std.specs.Str.Parse.{IsNumeral, AllDigits, digits_value, starts_with_minus}
use Rattle.std.proofs.lemmas.Bool.{cases_Bool}
use Rattle.std.proofs.lemmas.Bool.Decides.{nat_tests}
use Rattle.std.proofs.lemmas.Int.{ints}
use Rattle.std.proofs.lemmas.Fmt.{decimal_is_IsNumeral, decimal_digit, first_decimal}
use Rattle.std.proofs.lemmas.Str.Parse.{digit_from_value}
use Rattle.json.specs.Print.{escape_letter, escape_byte, escape, quoted, token_text}
use Rattle.json.specs.Token.{Token}
use Rattle.json.specs.Json as json
use Rattle.json.specs.Tree as tree
use Rattle.serde_json.specs.Data.{Num, unsigned, negative, float, Data}
use Rattle.serde_json.specs.Written.{number_text}
use Rattle.gx_json.specs.Valid.{IsWholeNumber, IsDocument}
use Rattle.gx_json.specs.Scan.{outside, inside, open_behind, opened, begins_run, is_run_byte, runs, without_minus, IsWholeText, IsInteger, least, greatest, number_of}
use Rattle.gx_json.specs.Parts.{NoneBegins, IsRun, EndsRun}
use Rattle.gx_json.specs.Print.{separator, printed}
use Rattle.gx_json.specs.Text.{PassesText}
use Rattle.gx_bytes.specs.Wholes.{IsWithin}
use Rattle.gx_json.proofs.LongestRuns.{runs_behind, first_of}
use Rattle.gx_json.proofs.RunLemmas.{begins_goes_on}
use Rattle.gx_json.proofs.PartLemmas.{other}
use Rattle.gx_json.proofs.PrintedTrees.{reorder, tree_text, items_text, members_text, printed_tree, reorder_depth, reorder_numbers, EachNumber, EachOfItems, EachOfMembers}

-- ---- what is outside of strings

hex_is_plain : (v : ℕ) → v < 16 → (digit_char v ≢ 34) × (digit_char v ≢ 92)
hex_is_plain v h = elim (cases_Bool (nat_lt v 10)) [
  | inl low ↦ rw low ((λ e. absurd (omega (arith, e))), (λ e. absurd (grind (arith, nat_tests, low, e))))
  | inr high ↦ rw high ((λ e. absurd (omega (arith, e))), (λ e. absurd (grind (arith, nat_tests, high, e))))
]

inside_plain : (b : ℕ) (t : List ℕ) → b ≢ 34 → b ≢ 92 → inside (b ∷ t) ≡ inside t
inside_plain b t n m = rw (other b 34 n, other b 92 m) refl

no_quote_at : (x : ℕ) → nat_lt 0 (escape_letter x) ≡ false → x ≢ 34
no_quote_at x h e = let clash : nat_lt 0 (escape_letter 34) ≡ false = subst (λ (n : ℕ). nat_lt 0 (escape_letter n) ≡ false) e h in cc

no_backslash_at : (x : ℕ) → nat_lt 0 (escape_letter x) ≡ false → x ≢ 92
no_backslash_at x h e = let clash : nat_lt 0 (escape_letter 92) ≡ false = subst (λ (n : ℕ). nat_lt 0 (escape_letter n) ≡ false) e h in cc

inside_byte : (x : ℕ) (t : List ℕ) → inside (escape_byte x ++ t) ≡ inside t
unfolding escape_byte
inside_byte x t = elim (cases_Bool (nat_lt 0 (escape_letter x))) [
  | inl letter ↦ rw letter refl
  | inr none ↦ elim (cases_Bool (nat_lt x 32)) [
    | inl low ↦
        let high : x / 16 < 16 = grind (arith, nat_tests, low) in
        let rest : x % 16 < 16 = omega arith in
        let h = hex_is_plain (x / 16) high in
        let l = hex_is_plain (x % 16) rest in
        rw (none, low) (inside_plain (digit_char (x / 16)) (digit_char (x % 16) ∷ t) h.0 h.1 ∙ inside_plain (digit_char (x % 16)) t l.0 l.1)
    | inr alone ↦ rw (none, alone) (inside_plain x t (no_quote_at x none) (no_backslash_at x none))
  ]
]

inside_escape : (s t : List ℕ) → inside (escape s ++ t) ≡ inside t
inside_escape [] t = refl
inside_escape (x ∷ s) t = ap inside (append_assoc (escape_byte x) (escape s) t) ∙ inside_byte x (escape s ++ t) ∙ inside_escape s t

outside_quoted : (s t : List ℕ) → outside (quoted s ++ t) ≡ 34 ∷ outside t
outside_quoted s t = ap (λ (u : List ℕ). 34 ∷ inside u) (append_assoc (escape s) (34 ∷ []) t) ∙ ap (λ (u : List ℕ). 34 ∷ u) (inside_escape s (34 ∷ t))

-- the text of a number
record IsWritten (s : List ℕ) : Type 0 where
  bytes : AllByRecursion (λ c. begins_run c ≡ true) s
  run : IsRun s
  integer : IsInteger s

begins_no_quote : (c : ℕ) → begins_run c ≡ true → c ≢ 34
begins_no_quote c h e = let clash : begins_run 34 ≡ true = subst (λ (n : ℕ). begins_run n ≡ true) e h in cc

outside_bytes : (s t : List ℕ) → AllByRecursion (λ c. begins_run c ≡ true) s → outside (s ++ t) ≡ s ++ outside t
outside_bytes [] t h = refl
outside_bytes (c ∷ s) t h = rw (other c 34 (begins_no_quote c h.0)) (ap (λ (u : List ℕ). c ∷ u) (outside_bytes s t h.1))

outside_separator : (later : Bool) (t : List ℕ) → outside (separator later ++ t) ≡ separator later ++ outside t
outside_separator true t = refl
outside_separator false t = refl

abbrev mutual
  left_of : json.Json → List ℕ
  left_of json.null = token_text Token.null
  left_of (json.boolean b) = token_text (Token.boolean b)
  left_of (json.number s) = s
  left_of (json.string s) = 34 ∷ []
  left_of (json.array js) = 91 ∷ (left_items false js ++ 93 ∷ [])
  left_of (json.object ms) = 123 ∷ (left_members false ms ++ 125 ∷ [])

  left_items : Bool → json.Items → List ℕ
  left_items later json.no_items = []
  left_items later (json.item j js) = separator later ++ (left_of j ++ left_items true js)

  left_members : Bool → json.Members → List ℕ
  left_members later json.no_members = []
  left_members later (json.member k j ms) = separator later ++ (34 ∷ 58 ∷ 32 ∷ (left_of j ++ left_members true ms))

three : (a b c d : List ℕ) → (a ++ (b ++ c)) ++ d ≡ a ++ (b ++ (c ++ d))
three a b c d = simp append_assoc

five : (a q b c d : List ℕ) → (a ++ (q ++ 58 ∷ 32 ∷ (b ++ c))) ++ d ≡ a ++ (q ++ 58 ∷ 32 ∷ (b ++ (c ++ d)))
five a q b c d = simp append_assoc

mutual
  value_outside : (j : json.Json) (t : List ℕ) → EachNumber IsWritten j → outside (tree_text j ++ t) ≡ left_of j ++ outside t
  value_outside json.null t h = refl
  value_outside (json.boolean true) t h = refl
  value_outside (json.boolean false) t h = refl
  value_outside (json.number s) t h = outside_bytes s t h.bytes
  value_outside (json.string s) t h = outside_quoted s t
  value_outside (json.array js) t h =
      ap (λ (u : List ℕ). 91 ∷ outside u) (append_assoc (items_text false js) (93 ∷ []) t)
      ∙ ap (λ (u : List ℕ). 91 ∷ u) (items_outside false js (93 ∷ t) h ∙ sym (append_assoc (left_items false js) (93 ∷ []) (outside t)))
  value_outside (json.object ms) t h =
      ap (λ (u : List ℕ). 123 ∷ outside u) (append_assoc (members_text false ms) (125 ∷ []) t)
      ∙ ap (λ (u : List ℕ). 123 ∷ u) (members_outside false ms (125 ∷ t) h ∙ sym (append_assoc (left_members false ms) (125 ∷ []) (outside t)))

  items_outside : (later : Bool) (js : json.Items) (t : List ℕ) → EachOfItems IsWritten js → outside (items_text later js ++ t) ≡ left_items later js ++ outside t
  items_outside later json.no_items t h = refl
  items_outside later (json.item j js) t h =
      ap outside (three (separator later) (tree_text j) (items_text true js) t)
      ∙ outside_separator later (tree_text j ++ (items_text true js ++ t))
      ∙ ap (λ (u : List ℕ). separator later ++ u) (value_outside j (items_text true js ++ t) h.0 ∙ ap (λ (u : List ℕ). left_of j ++ u) (items_outside true js t h.1))
      ∙ sym (three (separator later) (left_of j) (left_items true js) (outside t))

  members_outside : (later : Bool) (ms : json.Members) (t : List ℕ) → EachOfMembers IsWritten ms → outside (members_text later ms ++ t) ≡ left_members later ms ++ outside t
  members_outside later json.no_members t h = refl
  members_outside later (json.member k j ms) t h =
      ap outside (five (separator later) (quoted k) (tree_text j) (members_text true ms) t)
      ∙ outside_separator later (quoted k ++ 58 ∷ 32 ∷ (tree_text j ++ (members_text true ms ++ t)))
      ∙ ap (λ (u : List ℕ). separator later ++ u)
      (outside_quoted k (58 ∷ 32 ∷ (tree_text j ++ (members_text true ms ++ t)))
      ∙ ap (λ (u : List ℕ). 34 ∷ 58 ∷ 32 ∷ u) (value_outside j (members_text true ms ++ t) h.0 ∙ ap (λ (u : List ℕ). left_of j ++ u) (members_outside true ms t h.1)))
      ∙ sym (five (separator later) (34 ∷ []) (left_of j) (left_members true ms) (outside t))

-- ---- brackets that stand open

abbrev Stays : ℕ → ℕ → List ℕ → Type 0
Stays most n [] = n ≤ most
Stays most n (c ∷ cs) = (n ≤ most) × Stays most (open_behind n c) cs

stays_low : (most n : ℕ) (signs : List ℕ) (place : ℕ) → Stays most n signs → fold open_behind n (take place signs) ≤ most
stays_low most n [] zero h = h
stays_low most n [] (suc place) h = h
stays_low most n (c ∷ cs) zero h = h.0
stays_low most n (c ∷ cs) (suc place) h = stays_low most (open_behind n c) cs place h.1

begins_opens_none : (n c : ℕ) → begins_run c ≡ true → open_behind n c ≡ n
begins_opens_none n c h =
    let a : c ≢ 91 = λ e. let clash : begins_run 91 ≡ true = subst (λ (x : ℕ). begins_run x ≡ true) e h in cc in
    let b : c ≢ 123 = λ e. let clash : begins_run 123 ≡ true = subst (λ (x : ℕ). begins_run x ≡ true) e h in cc in
    let d : c ≢ 93 = λ e. let clash : begins_run 93 ≡ true = subst (λ (x : ℕ). begins_run x ≡ true) e h in cc in
    let f : c ≢ 125 = λ e. let clash : begins_run 125 ≡ true = subst (λ (x : ℕ). begins_run x ≡ true) e h in cc in
    rw (other c 91 a, other c 123 b, other c 93 d, other c 125 f) refl

bytes_stay : (most n : ℕ) (s t : List ℕ) → n ≤ most → AllByRecursion (λ c. begins_run c ≡ true) s → Stays most n t → Stays most n (s ++ t)
bytes_stay most n [] t le all h = h
bytes_stay most n (c ∷ s) t le all h = (le, subst (λ (m : ℕ). Stays most m (s ++ t)) (sym (begins_opens_none n c all.0)) (bytes_stay most n s t le all.1 h))

separator_stays : (most n : ℕ) (later : Bool) (t : List ℕ) → n ≤ most → Stays most n t → Stays most n (separator later ++ t)
separator_stays most n true t le h = (le, (le, h))
separator_stays most n false t le h = h

closes : (most n : ℕ) (t : List ℕ) → n + 1 ≤ most → Stays most n t → (n + 1 ≤ most) × Stays most (n + 1 - 1) t
closes most n t le h = let same : n + 1 - 1 ≡ n = omega arith in (le, subst (λ (m : ℕ). Stays most m t) (sym same) h)

mutual
  value_stays : (most n : ℕ) (j : json.Json) (t : List ℕ) → n + tree.depth j ≤ most → EachNumber IsWritten j → Stays most n t → Stays most n (left_of j ++ t)
  value_stays most n json.null t le h s = let low : n ≤ most = omega (arith, le) in (low, (low, (low, (low, s))))
  value_stays most n (json.boolean true) t le h s = let low : n ≤ most = omega (arith, le) in (low, (low, (low, (low, s))))
  value_stays most n (json.boolean false) t le h s = let low : n ≤ most = omega (arith, le) in (low, (low, (low, (low, (low, s)))))
  value_stays most n (json.number x) t le h s = bytes_stay most n x t (omega (arith, le)) h.bytes s
  value_stays most n (json.string x) t le h s = (omega (arith, le), s)
  value_stays most n (json.array js) t le h s = (
    omega (arith, le),
    subst (Stays most (n + 1)) (sym (append_assoc (left_items false js) (93 ∷ []) t))
        (items_stay most (n + 1) false js (93 ∷ t) (omega (arith, le)) h (closes most n t (omega (arith, le)) s)),
  )
  value_stays most n (json.object ms) t le h s = (
    omega (arith, le),
    subst (Stays most (n + 1)) (sym (append_assoc (left_members false ms) (125 ∷ []) t))
        (members_stay most (n + 1) false ms (125 ∷ t) (omega (arith, le)) h (closes most n t (omega (arith, le)) s)),
  )

  items_stay : (most n : ℕ) (later : Bool) (js : json.Items) (t : List ℕ) → n + tree.items_depth js ≤ most → EachOfItems IsWritten js → Stays most n t → Stays most n (left_items later js ++ t)
  items_stay most n later json.no_items t le h s = s
  items_stay most n later (json.item j js) t le h s =
      subst (Stays most n) (sym (three (separator later) (left_of j) (left_items true js) t))
      (separator_stays most n later (left_of j ++ (left_items true js ++ t)) (omega (arith, le))
      (value_stays most n j (left_items true js ++ t) (omega (arith, le)) h.0 (items_stay most n true js t (omega (arith, le)) h.1 s)))

  members_stay : (most n : ℕ) (later : Bool) (ms : json.Members) (t : List ℕ) → n + tree.members_depth ms ≤ most → EachOfMembers IsWritten ms → Stays most n t → Stays most n (left_members later ms ++ t)
  members_stay most n later json.no_members t le h s = s
  members_stay most n later (json.member k j ms) t le h s =
      let low : n ≤ most = omega (arith, le) in
      subst (Stays most n) (sym (five (separator later) (34 ∷ []) (left_of j) (left_members true ms) t))
      (separator_stays most n later (34 ∷ 58 ∷ 32 ∷ (left_of j ++ (left_members true ms ++ t))) low
      (low, (low, (low, value_stays most n j (left_members true ms ++ t) (omega (arith, le)) h.0 (members_stay most n true ms t (omega (arith, le)) h.1 s)))))

-- ---- numbers

abbrev Integers : List ℕ → Type 0
Integers t = AllByRecursion IsInteger (runs t)

behind_none : (before t : List ℕ) → NoneBegins before → Integers t → Integers (before ++ t)
behind_none before t none h = subst (AllByRecursion IsInteger) (sym (runs_behind before t none)) h

separator_none : (later : Bool) → NoneBegins (separator later)
separator_none true = (refl, (refl, tt))
separator_none false = tt

items_end : (later : Bool) (js : json.Items) (t : List ℕ) → later ≡ true → EndsRun t → EndsRun (left_items later js ++ t)
items_end true json.no_items t e h = h
items_end true (json.item j js) t e h = refl
items_end false js t e h = cc

members_end : (later : Bool) (ms : json.Members) (t : List ℕ) → later ≡ true → EndsRun t → EndsRun (left_members later ms ++ t)
members_end true json.no_members t e h = h
members_end true (json.member k j ms) t e h = refl
members_end false ms t e h = cc

mutual
  value_integers : (j : json.Json) (t : List ℕ) → EachNumber IsWritten j → EndsRun t → Integers t → Integers (left_of j ++ t)
  value_integers json.null t h e s = s
  value_integers (json.boolean true) t h e s = s
  value_integers (json.boolean false) t h e s = s
  value_integers (json.number x) t h e s = subst (AllByRecursion IsInteger) (sym (first_of x t h.run e)) (h.integer, s)
  value_integers (json.string x) t h e s = s
  value_integers (json.array js) t h e s = subst Integers (sym (append_assoc (left_items false js) (93 ∷ []) t)) (items_integers false js (93 ∷ t) h refl s)
  value_integers (json.object ms) t h e s = subst Integers (sym (append_assoc (left_members false ms) (125 ∷ []) t)) (members_integers false ms (125 ∷ t) h refl s)

  items_integers : (later : Bool) (js : json.Items) (t : List ℕ) → EachOfItems IsWritten js → EndsRun t → Integers t → Integers (left_items later js ++ t)
  items_integers later json.no_items t h e s = s
  items_integers later (json.item j js) t h e s =
      subst Integers (sym (three (separator later) (left_of j) (left_items true js) t))
      (behind_none (separator later) (left_of j ++ (left_items true js ++ t)) (separator_none later)
      (value_integers j (left_items true js ++ t) h.0 (items_end true js t refl e) (items_integers true js t h.1 e s)))

  members_integers : (later : Bool) (ms : json.Members) (t : List ℕ) → EachOfMembers IsWritten ms → EndsRun t → Integers t → Integers (left_members later ms ++ t)
  members_integers later json.no_members t h e s = s
  members_integers later (json.member k j ms) t h e s =
      subst Integers (sym (five (separator later) (34 ∷ []) (left_of j) (left_members true ms) t))
      (behind_none (separator later) (34 ∷ 58 ∷ 32 ∷ (left_of j ++ (left_members true ms ++ t))) (separator_none later)
      (value_integers j (left_members true ms ++ t) h.0 (members_end true ms t refl e) (members_integers true ms t h.1 e s)))

-- ---- the texts of whole numbers

digit_begins : (c : ℕ) → 48 ≤ c → c ≤ 57 → begins_run c ≡ true
digit_begins c low high = grind (arith, nat_tests, low, high)

digits_begin : (ds : List ℕ) → AllDigits 10 ds → AllByRecursion (λ c. begins_run c ≡ true) ds
digits_begin [] h = tt
digits_begin (c ∷ ds) h = let range = digit_from_value c h.0 in (digit_begins c (omega (arith, range)) (omega (arith, range)), digits_begin ds h.1)

go_on : (s : List ℕ) → AllByRecursion (λ c. begins_run c ≡ true) s → AllByRecursion (λ c. is_run_byte c ≡ true) s
go_on [] h = tt
go_on (c ∷ s) h = (begins_goes_on c h.0, go_on s h.1)

digits_run : (ds : List ℕ) → IsNumeral 10 ds → IsRun ds
digits_run [] h = absurd (omega (arith, h.0))
digits_run (c ∷ ds) h = let all = digits_begin (c ∷ ds) h.1 in (all.0, go_on ds all.1)

no_minus : (ds : List ℕ) → IsNumeral 10 ds → starts_with_minus ds ≡ false
no_minus [] h = absurd (omega (arith, h.0))
no_minus (c ∷ ds) h = let range = digit_from_value c h.1.0 in other c 45 (omega (arith, range))

-- digits without a leading zero
module _ (n : ℕ) (small : n < 2 ^ 64) where
  numeral : IsNumeral 10 (decimal n)
  numeral = (decimal_is_IsNumeral n small).0

  value : digits_value 10 (decimal n) ≡ n
  value = (decimal_is_IsNumeral n small).1

  same : without_minus (decimal n) ≡ decimal n
  same = rw (no_minus (decimal n) numeral) refl

  lead : 0 < n → slice_index (decimal n) 0 ≢ 48
  lead some e = absurd (omega (arith, first_decimal n some small, e))

  whole : 0 < n → IsWholeText (decimal n)
  whole some = inr (subst (IsNumeral 10) (sym same) numeral, subst (λ (t : List ℕ). slice_index t 0 ≢ 48) (sym same) (lead some))

  number : number_of (decimal n) ≡ pos n
  number = rw (no_minus (decimal n) numeral) (ap pos value)

either_whole : (n : ℕ) → n < 2 ^ 64 → IsWholeText (decimal n)
either_whole zero h = inl (decimal_digit 0 (omega arith))
either_whole (suc n) h = whole (suc n) h (omega arith)

written : (n : Num) → IsWholeNumber n → IsWritten (number_text n)
written (unsigned n) h =
    let small : n < 2 ^ 64 = omega (arith, h) in
    let digits = numeral n small in
    record {
      bytes = digits_begin (decimal n) digits.1;
      run = digits_run (decimal n) digits;
      integer = record { whole = either_whole n small; within = subst (IsWithin least greatest) (sym (number n small)) (omega (arith, ints, h), omega (arith, ints, h)) };
    }
written (negative (pos n)) h = absurd h
written (negative (negsuc n)) h =
    let small : suc n < 2 ^ 64 = omega (arith, h) in
    let digits = numeral (suc n) small in
    let begin = digits_begin (decimal (suc n)) digits.1 in
    record {
      bytes = (refl, begin);
      run = (refl, go_on (decimal (suc n)) begin);
      integer = record {
        whole = inr (digits, lead (suc n) small (omega arith));
        within = subst (IsWithin least greatest) (ap (λ (k : ℕ). neg_ℤ (pos k)) (sym (value (suc n) small))) (omega (arith, ints, h), omega (arith, ints, h));
      };
    }
written (float x) h = absurd h

pub printed_passes : (d : Data) → IsDocument d → PassesText (printed d)
printed_passes d h =
    let j = reorder d in
    let w = reorder_numbers IsWritten written d h.stored in
    let left : outside (printed d) ≡ left_of j = ap outside (sym (printed_tree d) ∙ sym (append-nil (tree_text j))) ∙ value_outside j [] w ∙ append-nil (left_of j) in
    let stays : Stays 64 0 (left_of j) = subst (Stays 64 0) (append-nil (left_of j)) (value_stays 64 0 j [] (omega (arith, reorder_depth d, h.shallow)) w (omega arith)) in
    record {
      few = λ many. let low = stays_low 64 0 (left_of j) many.0 stays in let high = subst (λ (t : List ℕ). 64 < opened (take many.0 t)) left many.1 in omega (arith, low, high);
      integers = subst Integers (append-nil (left_of j) ∙ sym left) (value_integers j [] w tt tt);
    }
