-- The printed text of a range spells it.
use Rattle.std.proofs.Common.{◌≡◌, ◌≢◌, ℕ, ◌-◌, Bool, true, false, if◌then◌else◌, List, [], ◌∷◌, ◌++◌, inl, inr, All, length, get_or, Option, Some, None, is_some, Ok, refl, sym, ◌∙◌, ap, subst, arith, true≢false, append_assoc, length-append, ne_eqb, ℤ, pos, ◌≤ℤ◌, codes}
use Rattle.std.specs.Prelude.{int_lt, int_le}
use Rattle.std.specs.Ordering.{int_eq}
use Rattle.std.specs.Char.{is_ascii_whitespace}
use Rattle.std.proofs.lemmas.Int.{ints}
use Rattle.std.proofs.lemmas.List.Elements.{All-nil, All-head, All-weaker, All-from_recursion}
use borrow.Author.Differences.{le-true}
use Rattle.gx_bytes.specs.Blanks.{core_of, IsBare}
use Rattle.gx_bytes.specs.Days.{printed_day}
use Rattle.gx_bytes.proofs.BlankLemmas.{core_bare}
use Rattle.gx_bytes.proofs.WholeLemmas.{IsNumberByte, number_byte, whole_bytes, whole_printed}
use Rattle.gx_bytes.proofs.DayLemmas.{day_printed, day_bytes}
use Rattle.gx_range.specs.declared.range.Range.{Range}
use Rattle.gx_range.specs.declared.range.Range.TheVariants.{Empty, Span}
use Rattle.gx_range.specs.declared.range.RangeKind.{RangeKind}
use Rattle.gx_range.specs.declared.range.RangeKind.TheVariants.{Int4, Int8, Date}
use Rattle.gx_range.specs.declared.steps.Form.{Form}
use Rattle.gx_range.specs.Values.{least, greatest, fits, IsRange}
use Rattle.gx_range.specs.Bounds.{far_text, far_day, SpellsElement, is_stop, SpellsBound, IsBound}
use Rattle.gx_range.specs.Texts.{opening, IsForm, steps, SpellsRange, element_text, bound_text, printed}
use Rattle.gx_range.proofs.EncodingLemmas.{both_true}

no_stop : (c : ℕ) → c ≢ 34 → c ≢ 44 → c ≢ 40 → c ≢ 41 → c ≢ 91 → c ≢ 93 → is_stop c ≡ false
no_stop c a b d e f g = rw (ne_eqb c 34 a, ne_eqb c 44 b, ne_eqb c 40 d, ne_eqb c 41 e, ne_eqb c 91 f, ne_eqb c 93 g) refl

plain_byte : (c : ℕ) → IsNumberByte c → is_stop c ≡ false
plain_byte c h =
    elim (number_byte c h) [
      | inl low ↦ no_stop c (omega arith) (omega arith) (omega arith) (omega arith) (omega arith) (omega arith)
      | inr (inl plus) ↦ no_stop c (omega arith) (omega arith) (omega arith) (omega arith) (omega arith) (omega arith)
      | inr (inr (inl minus)) ↦ no_stop c (omega arith) (omega arith) (omega arith) (omega arith) (omega arith) (omega arith)
      | inr (inr (inr digit)) ↦ no_stop c (omega arith) (omega arith) (omega arith) (omega arith) (omega arith) (omega arith)
    ]

plain_text : (text : List ℕ) → All IsNumberByte text → All (λ c. is_stop c ≡ false) text
plain_text text h = All-weaker IsNumberByte (λ c. is_stop c ≡ false) plain_byte text h

far_plain : All (λ c. is_stop c ≡ false) far_text
far_plain = All-from_recursion (λ c. is_stop c ≡ false) far_text (refl, (refl, (refl, (refl, (refl, (refl, (refl, (refl, (refl, (refl, (refl, tt)))))))))))

record Shown (kind : RangeKind) (text : List ℕ) (n : ℤ) : Type 0 where
  spelled : SpellsElement kind text n
  plain : All (λ c. is_stop c ≡ false) text

shown_day : (n : ℤ) (b : Bool) → int_eq n far_day ≡ b → least Date ≤ℤ n → n ≤ℤ greatest Date → Shown Date (if b then far_text else printed_day n) n
shown_day n true e low high = record { spelled = inr (refl, grind (arith, ints)); plain = far_plain }
shown_day n false e low high =
    let below : n ≤ℤ pos 2_932_896 = grind (arith, ints) in
    let spelled = day_printed n (low, below) in
    record { spelled = inl spelled; plain = plain_text (printed_day n) (day_bytes (printed_day n) n spelled) }

shown_at : (kind : RangeKind) (n : ℤ) → least kind ≤ℤ n → n ≤ℤ greatest kind → Shown kind (element_text kind n) n
shown_at Int4 n low high =
    let spelled = whole_printed n (omega (arith, ints), omega (arith, ints)) in
    record { spelled = (spelled, (low, high)); plain = plain_text _ (whole_bytes _ n spelled) }
shown_at Int8 n low high =
    let spelled = whole_printed n (low, high) in
    record { spelled = (spelled, (low, high)); plain = plain_text _ (whole_bytes _ n spelled) }
shown_at Date n low high = shown_day n (int_eq n far_day) refl low high

shown : (kind : RangeKind) (n : ℤ) → fits kind (Some n) ≡ true → Shown kind (element_text kind n) n
shown kind n h =
    let both = both_true (int_le (least kind) n) (int_le n (greatest kind)) h in
    let low = le-true (least kind) n both.0 in
    let high = le-true n (greatest kind) both.1 in
    shown_at kind n (omega (arith, ints)) (omega (arith, ints))

bound_plain : (kind : RangeKind) (b : Option ℤ) → fits kind b ≡ true → All (λ c. is_stop c ≡ false) (bound_text kind b)
bound_plain kind None h = All-nil (λ c. is_stop c ≡ false)
bound_plain kind (Some n) h = (shown kind n h).plain

bound_spelled : (kind : RangeKind) (b : Option ℤ) → fits kind b ≡ true → SpellsBound kind false (bound_text kind b) b
bound_spelled kind None h = (refl, refl)
bound_spelled kind (Some n) h = (shown kind n h).spelled

first_plain : (text rest : List ℕ) (c : ℕ) → c ≢ 34 → All (λ c. is_stop c ≡ false) text → get_or (text ++ c ∷ rest) 0 0 ≢ 34
first_plain [] rest c other plain e = other e
first_plain (b ∷ text) rest c other plain e = true≢false (sym (ap is_stop e) ∙ All-head (λ c. is_stop c ≡ false) b text plain)

bound_read : (kind : RangeKind) (b : Option ℤ) (c : ℕ) (rest : List ℕ) → fits kind b ≡ true → c ≢ 34 → is_stop c ≡ true → IsBound kind (bound_text kind b ++ c ∷ rest) b (c ∷ rest)
bound_read kind b c rest h other stop = record {
  quoted = false;
  text = bound_text kind b;
  written = (record { parts = refl; plain = bound_plain kind b h; stops = stop }, first_plain (bound_text kind b) rest c other (bound_plain kind b h));
  spelled = bound_spelled kind b h;
}

abbrev form_of : Option ℤ → Option ℤ → Form
form_of l u = record { lower_closed = is_some l; lower = l; upper = u; upper_closed = false }

form_read : (kind : RangeKind) (l u : Option ℤ) → IsRange kind (Span l u) → IsForm kind (printed kind (Span l u)) (form_of l u) []
form_read kind l u p = record {
  rest = bound_text kind u ++ 41 ∷ [];
  begins = record {
    bytes = bound_text kind l ++ 44 ∷ (bound_text kind u ++ 41 ∷ []);
    bracket = refl;
    bound = bound_read kind l 44 (bound_text kind u ++ 41 ∷ []) p.0 (omega arith) refl;
  };
  bound = bound_read kind u 41 [] p.1 (omega arith) refl;
}

steps_printed : (kind : RangeKind) (l u : Option ℤ) → IsRange kind (Span l u) → steps kind (form_of l u) ≡ Ok (Span l u)
steps_printed kind None None p = refl
steps_printed kind None (Some u) p = rw p.1 refl
steps_printed kind (Some l) None p = rw p.0 refl
steps_printed kind (Some l) (Some u) p =
    let below : int_lt l u ≡ true = p.2 in
    let above : int_lt u l ≡ false = grind (arith, ints) in
    rw (below, above, p.0, p.1) refl

at_end : (xs : List ℕ) (c : ℕ) → get_or (xs ++ c ∷ []) (length xs) 0 ≡ c
at_end [] c = refl
at_end (x ∷ xs) c = at_end xs c

last_pushed : (xs : List ℕ) (c : ℕ) → get_or (xs ++ c ∷ []) (length (xs ++ c ∷ []) - 1) 0 ≡ c
last_pushed xs c = ap (λ k. get_or (xs ++ c ∷ []) k 0) (omega (arith, length-append xs (c ∷ []))) ∙ at_end xs c

span_bare : (closed : Bool) (low high : List ℕ) → IsBare (opening closed ∷ (low ++ 44 ∷ (high ++ 41 ∷ [])))
span_bare closed low high =
    let pushed : opening closed ∷ (low ++ 44 ∷ (high ++ 41 ∷ [])) ≡ (opening closed ∷ (low ++ 44 ∷ high)) ++ 41 ∷ [] =
    ap (λ (t : List ℕ). opening closed ∷ t) (sym (append_assoc low (44 ∷ high) (41 ∷ []))) in
    let last = ap (λ (t : List ℕ). get_or t (length t - 1) 0) pushed ∙ last_pushed (opening closed ∷ (low ++ 44 ∷ high)) 41 in
    record { first = first_of closed; last = ap is_ascii_whitespace last }
  where
    first_of : (closed : Bool) → is_ascii_whitespace (opening closed) ≡ false
    first_of true = refl
    first_of false = refl

pub range_printed : (kind : RangeKind) (range : Range) → IsRange kind range → SpellsRange kind (core_of (printed kind range)) range
range_printed kind Empty p =
    let bare : core_of (codes "empty") ≡ codes "empty" = core_bare (codes "empty") record { first = refl; last = refl } in
    let P : List ℕ → Type 0 = λ t. SpellsRange kind t Empty in
    subst P (sym bare) (inl (refl, refl))
range_printed kind (Span l u) p =
    let bare = core_bare (printed kind (Span l u)) (span_bare (is_some l) (bound_text kind l) (bound_text kind u)) in
    let P : List ℕ → Type 0 = λ t. SpellsRange kind t (Span l u) in
    subst P (sym bare) (inr (form_of l u, form_read kind l u p, steps_printed kind l u p))
