-- Bytes begin with one bound, and an element's text has one element.
use Rattle.std.proofs.Common.{◌≡◌, ◌≢◌, ℕ, ◌<◌, Bool, true, false, List, [], ◌∷◌, ◌++◌, inl, inr, All, length, get_or, Option, Some, None, Ok, Err, refl, sym, ◌∙◌, ap, subst, arith, true≢false, ℤ, length-append}
use Rattle.std.specs.Str.Parse.{without_leading_sign}
use Rattle.std.proofs.lemmas.Int.{ints}
use Rattle.std.proofs.lemmas.List.Elements.{All-head, All-tail}
use Rattle.gx_bytes.specs.declared.error.ValueError.{ValueError}
use Rattle.gx_bytes.specs.declared.error.ValueError.TheVariants.{NoValue, OutOfRange, TooDeep, Memory}
use Rattle.gx_bytes.specs.Blanks.{core_of}
use Rattle.gx_bytes.specs.Wholes.{SpellsWhole, IsWithin, IsOutside}
use Rattle.gx_bytes.specs.Days.{SpellsDay, IsDateForm, IsInCalendar, AnswersDay}
use Rattle.gx_bytes.proofs.BlankLemmas.{core_bare, one_cut, byte_inside}
use Rattle.gx_bytes.proofs.WholeLemmas.{one_whole}
use Rattle.gx_bytes.proofs.DayLemmas.{one_day, one_answer as one_day_answer}
use Rattle.gx_range.specs.declared.range.RangeKind.{RangeKind}
use Rattle.gx_range.specs.declared.range.RangeKind.TheVariants.{Int4, Int8, Date}
use Rattle.gx_range.specs.Values.{least, greatest}
use Rattle.gx_range.specs.Bounds.{far_text, SpellsElement, LeavesElement, is_stop, Stops, IsWritten, SpellsBound, IsBound, LeavesBound, AnswersElement, RefusesBound}

-- a text is split at its first stop in one way
same_split : (a b x y : List ℕ) → All (λ c. is_stop c ≡ false) a → All (λ c. is_stop c ≡ false) b → Stops x → Stops y → a ++ x ≡ b ++ y → (a ≡ b) × (x ≡ y)
same_split [] [] x y p q s t e = (refl, e)
same_split [] (b ∷ bs) [] y p q s t e = absurd (cc e)
same_split [] (b ∷ bs) (c ∷ x) y p q s t e =
    let head : c ≡ b = cc e in
    absurd (true≢false (sym s ∙ ap is_stop head ∙ All-head (λ c. is_stop c ≡ false) b bs q))
same_split (a ∷ as') [] x [] p q s t e = absurd (cc e)
same_split (a ∷ as') [] x (c ∷ y) p q s t e =
    let head : a ≡ c = cc e in
    absurd (true≢false (sym t ∙ ap is_stop (sym head) ∙ All-head (λ c. is_stop c ≡ false) a as' p))
same_split (a ∷ as') (b ∷ bs) x y p q s t e =
    let head : a ≡ b = cc e in
    let tail : as' ++ x ≡ bs ++ y = cc e in
    let rest = same_split as' bs x y (All-tail (λ c. is_stop c ≡ false) a as' p) (All-tail (λ c. is_stop c ≡ false) b bs q) s t tail in
    let lists : as' ≡ bs = rest.0 in
    (cc (head, lists), rest.1)

quote_first : (bytes rest : List ℕ) → bytes ≡ 34 ∷ rest → get_or bytes 0 0 ≢ 34 → ⊥
quote_first bytes rest e other = other (ap (λ t. get_or t 0 0) e)

-- what is written at the front of the bytes, and what follows, is one
pub one_written : (bytes : List ℕ) (q r : Bool) (a b x y : List ℕ) → IsWritten bytes q a x → IsWritten bytes r b y → (q ≡ r) × (a ≡ b) × (x ≡ y)
one_written bytes true true a b x y p s =
    let both : 34 ∷ (a ++ 34 ∷ x) ≡ 34 ∷ (b ++ 34 ∷ y) = sym p.0 ∙ s.0 in
    let tails : a ++ 34 ∷ x ≡ b ++ 34 ∷ y = cc both in
    let same = one_cut 34 a b x y p.1 s.1 tails in
    (refl, same.0, same.1)
one_written bytes true false a b x y p s = absurd (quote_first bytes (a ++ 34 ∷ x) p.0 s.1)
one_written bytes false true a b x y p s = absurd (quote_first bytes (b ++ 34 ∷ y) s.0 p.1)
one_written bytes false false a b x y p s =
    let same = same_split a b x y p.0.plain s.0.plain p.0.stops s.0.stops (sym p.0.parts ∙ s.0.parts) in
    (refl, same.0, same.1)

-- an element's text isn't empty
whole_some : (n : ℤ) → SpellsWhole [] n → ⊥
whole_some n s =
    let none : core_of [] ≡ [] = core_bare [] record { first = refl; last = refl } in
    let P : List ℕ → Type 0 = λ t. 0 < length (without_leading_sign t) in
    let some : 0 < length (without_leading_sign []) = subst P none s.numeral.0 in
    omega arith

form_length : (core : List ℕ) (y m d : ℕ) → IsDateForm core y m d → length core ≡ 10
form_length core y m d form =
    ap length form.parts
    ∙ omega (arith, length-append form.year_text (45 ∷ (form.month_text ++ 45 ∷ form.day_text)), length-append form.month_text (45 ∷ form.day_text), form.year_field.size, form.month_field.size, form.day_field.size)

form_some : (y m d : ℕ) → IsDateForm (core_of []) y m d → ⊥
form_some y m d form =
    let none : core_of [] ≡ [] = core_bare [] record { first = refl; last = refl } in
    let ten = sym (ap length none) ∙ form_length (core_of []) y m d form in
    omega (arith, ten)

-- the day behind the last one is no date
far_form : (y m d : ℕ) → IsDateForm (core_of far_text) y m d → ⊥
far_form y m d form =
    let bare : core_of far_text ≡ far_text = core_bare far_text record { first = refl; last = refl } in
    let ten = sym (ap length bare) ∙ form_length (core_of far_text) y m d form in
    omega (arith, ten)

far_none : (text : List ℕ) → text ≡ far_text → (y m d : ℕ) → IsDateForm (core_of text) y m d → ⊥
far_none text e y m d form = let P : List ℕ → Type 0 = λ t. IsDateForm (core_of t) y m d in far_form y m d (subst P e form)

element_some : (kind : RangeKind) (n : ℤ) → SpellsElement kind [] n → ⊥
element_some Int4 n s = whole_some n s.0
element_some Int8 n s = whole_some n s.0
element_some Date n (inl s) = form_some s.year s.month s.day s.form
element_some Date n (inr s) = cc s.0

pub one_element : (kind : RangeKind) (text : List ℕ) (m n : ℤ) → SpellsElement kind text m → SpellsElement kind text n → m ≡ n
one_element Int4 text m n a b = one_whole text m n a.0 b.0
one_element Int8 text m n a b = one_whole text m n a.0 b.0
one_element Date text m n (inl a) (inl b) = one_day text m n a b
one_element Date text m n (inl a) (inr b) = absurd (far_none text b.0 a.year a.month a.day a.form)
one_element Date text m n (inr a) (inl b) = absurd (far_none text a.0 b.year b.month b.day b.form)
one_element Date text m n (inr a) (inr b) = a.1 ∙ sym b.1

not_both : (low high n : ℤ) → IsWithin low high n → IsOutside low high n → ⊥
not_both low high n within (inl below) = let least = within.0 in omega (arith, ints)
not_both low high n within (inr above) = let most = within.1 in omega (arith, ints)

whole_stays : (text : List ℕ) (low high m n : ℤ) → SpellsWhole text m → IsWithin low high m → SpellsWhole text n → IsOutside low high n → ⊥
whole_stays text low high m n a within b outside =
    let P : ℤ → Type 0 = λ z. IsOutside low high z in
    not_both low high m within (subst P (one_whole text n m b a) outside)

day_stays : (text : List ℕ) (n : ℤ) → SpellsDay text n → (y m d : ℕ) → IsDateForm (core_of text) y m d → (IsInCalendar y m d → ⊥) → ⊥
day_stays text n s y m d form none =
    let spelled : AnswersDay text (Ok n) = s in
    let outside : AnswersDay text (Err OutOfRange) = (y, m, d, form, none) in
    let same : Ok n ≡ Err OutOfRange = one_day_answer text (Ok n) (Err OutOfRange) spelled outside in
    cc same

pub element_stays : (kind : RangeKind) (text : List ℕ) (n : ℤ) → SpellsElement kind text n → LeavesElement kind text → ⊥
element_stays Int4 text n a l = whole_stays text (least Int4) (greatest Int4) n l.0 a.0 a.1 l.1 l.2
element_stays Int8 text n a l = whole_stays text (least Int8) (greatest Int8) n l.0 a.0 a.1 l.1 l.2
element_stays Date text n (inl a) l = day_stays text n a l.0 l.1 l.2 l.3 l.4
element_stays Date text n (inr a) l = far_none text a.0 l.0 l.1 l.2 l.3

leaves_some : (kind : RangeKind) → LeavesElement kind [] → ⊥
leaves_some Int4 l = whole_some l.0 l.1
leaves_some Int8 l = whole_some l.0 l.1
leaves_some Date l = form_some l.0 l.1 l.2 l.3

empty_element : (kind : RangeKind) (text : List ℕ) (n : ℤ) → text ≡ [] → SpellsElement kind text n → ⊥
empty_element kind text n e s = let P : List ℕ → Type 0 = λ t. SpellsElement kind t n in element_some kind n (subst P e s)

empty_leaves : (kind : RangeKind) (text : List ℕ) → text ≡ [] → LeavesElement kind text → ⊥
empty_leaves kind text e l = let P : List ℕ → Type 0 = λ t. LeavesElement kind t in leaves_some kind (subst P e l)

one_spelled : (kind : RangeKind) (quoted : Bool) (text : List ℕ) (a b : Option ℤ) → SpellsBound kind quoted text a → SpellsBound kind quoted text b → a ≡ b
one_spelled kind quoted text None None a b = refl
one_spelled kind quoted text None (Some n) a b = absurd (empty_element kind text n a.1 b)
one_spelled kind quoted text (Some m) None a b = absurd (empty_element kind text m b.1 a)
one_spelled kind quoted text (Some m) (Some n) a b = ap Some (one_element kind text m n a b)

spelled_stays : (kind : RangeKind) (quoted : Bool) (text : List ℕ) (a : Option ℤ) → SpellsBound kind quoted text a → LeavesElement kind text → ⊥
spelled_stays kind quoted text None a l = empty_leaves kind text a.1 l
spelled_stays kind quoted text (Some n) a l = element_stays kind text n a l

-- bytes begin with one bound
pub one_bound : (kind : RangeKind) (bytes : List ℕ) (a b : Option ℤ) (x y : List ℕ) → IsBound kind bytes a x → IsBound kind bytes b y → (a ≡ b) × (x ≡ y)
one_bound kind bytes a b x y p q =
    let same = one_written bytes p.quoted q.quoted p.text q.text x y p.written q.written in
    let P : Bool → Type 0 = λ t. SpellsBound kind t q.text b in
    let Q : List ℕ → Type 0 = λ t. SpellsBound kind p.quoted t b in
    (one_spelled kind p.quoted p.text a b p.spelled (subst Q (sym same.1) (subst P (sym same.0) q.spelled)), same.2)

-- and then with none that the type doesn't have
pub bound_stays : (kind : RangeKind) (bytes : List ℕ) (a : Option ℤ) (x : List ℕ) → IsBound kind bytes a x → LeavesBound kind bytes → ⊥
bound_stays kind bytes a x p l =
    let same = one_written bytes p.quoted l.quoted p.text l.text x l.rest p.written l.written in
    let Q : List ℕ → Type 0 = λ t. LeavesElement kind t in
    spelled_stays kind p.quoted p.text a p.spelled (subst Q (sym same.1) l.leaves)

-- the answers of the readers of numbers and days
pub day_fault : (text : List ℕ) (fault : ValueError) → text ≢ far_text → AnswersDay text (Err fault) → AnswersElement Date text (Err fault)
day_fault text NoValue other h = (no_day text other h, λ l. h l.0 l.1 l.2 l.3)
  where
    no_day : (text : List ℕ) → text ≢ far_text → AnswersDay text (Err NoValue) → (n : ℤ) → SpellsElement Date text n → ⊥
    no_day text other h n (inl s) = h s.year s.month s.day s.form
    no_day text other h n (inr s) = other s.0
day_fault text OutOfRange other h = h
day_fault text TooDeep other h = h
day_fault text Memory other h = h

-- a fault of an element is one of the bound
pub element_fault : (kind : RangeKind) (bytes : List ℕ) (quoted : Bool) (text rest : List ℕ) (fault : ValueError) → IsWritten bytes quoted text rest → (quoted ≡ false → text ≡ [] → ⊥)
    → AnswersElement kind text (Err fault) → RefusesBound kind bytes fault
element_fault kind bytes quoted text rest NoValue w some h = (none, leaves)
  where
    spelled : (b : Option ℤ) → SpellsBound kind quoted text b → ⊥
    spelled None s = some s.0 s.1
    spelled (Some n) s = h.0 n s

    none : (bound : Option ℤ) (after : List ℕ) → IsBound kind bytes bound after → ⊥
    none bound after p =
        let same = one_written bytes quoted p.quoted text p.text rest after w p.written in
        let P : Bool → Type 0 = λ t. SpellsBound kind t p.text bound in
        let Q : List ℕ → Type 0 = λ t. SpellsBound kind quoted t bound in
        spelled bound (subst Q (sym same.1) (subst P (sym same.0) p.spelled))

    leaves : LeavesBound kind bytes → ⊥
    leaves l =
        let same = one_written bytes quoted l.quoted text l.text rest l.rest w l.written in
        let Q : List ℕ → Type 0 = λ t. LeavesElement kind t in
        h.1 (subst Q (sym same.1) l.leaves)
element_fault kind bytes quoted text rest OutOfRange w some h = record { quoted = quoted; text = text; rest = rest; written = w; leaves = h }
element_fault kind bytes quoted text rest TooDeep w some h = h
element_fault kind bytes quoted text rest Memory w some h = h

-- bytes that begin with nothing that is written begin with no bound
pub nothing_written : (kind : RangeKind) (bytes : List ℕ) → ((quoted : Bool) (text rest : List ℕ) → IsWritten bytes quoted text rest → ⊥) → RefusesBound kind bytes NoValue
nothing_written kind bytes h = (λ b rest p. h p.quoted p.text rest p.written, λ l. h l.quoted l.text l.rest l.written)

-- a quote that is never closed
pub never_closed : (bytes inside : List ℕ) → bytes ≡ 34 ∷ inside → All (λ c. c ≢ 34) inside → (quoted : Bool) (text rest : List ℕ) → IsWritten bytes quoted text rest → ⊥
never_closed bytes inside e none true text rest w =
    let both : 34 ∷ inside ≡ 34 ∷ (text ++ 34 ∷ rest) = sym e ∙ w.0 in
    let tails : inside ≡ text ++ 34 ∷ rest = cc both in
    let P : List ℕ → Type 0 = λ t. All (λ c. c ≢ 34) t in
    byte_inside 34 text rest (subst P tails none)
never_closed bytes inside e none false text rest w = quote_first bytes inside e w.1

-- bytes that begin with no quote
pub first_other : (bytes : List ℕ) → ((rest : List ℕ) → bytes ≡ 34 ∷ rest → ⊥) → get_or bytes 0 0 ≢ 34
first_other [] h e = omega (arith, e)
first_other (c ∷ cs) h e = let first : c ≡ 34 = e in h cs (cc first)
