-- Texts of days: one text has one day, and the printed text of a day spells it.
use Rattle.std.proofs.Common.{◌≡◌, ℕ, zero, suc, ◌+◌, ◌/◌, ◌%◌, ◌^◌, ◌<◌, ◌≤◌, Bool, true, false, cond, List, [], ◌∷◌, ◌++◌, inl, inr, All, length, get_or, take, drop, refl, sym, ◌∙◌, ap, subst, arith, ℤ, pos, negsuc, neg_ℤ, ◌+ℤ◌, ◌-ℤ◌, ◌≤ℤ◌, ◌<ℤ◌, Result, Ok, Err, take-append-drop, drop-cons, drop-drop, true≢false, eq-or-lt_of_le, length-drop}
use Rattle.std.specs.Prelude.{int_le, unsigned_abs}
use Rattle.std.specs.Char.{digit_value, is_ascii_whitespace}
use Rattle.std.specs.Int.{IsInRange}
use borrow.Author.Differences.{up, down, le-true, le-false}
use Rattle.std.specs.Str.Parse.{AllDigits, digits_value}
use Rattle.std.proofs.lemmas.Int.Digits.{digits_value-lt}
use Rattle.std.proofs.lemmas.Bool.Decides.{nat_tests}
use Rattle.std.proofs.Math.Nat.{pow-le-pow_right}
use Rattle.std.proofs.lemmas.Bool.{cases_lt}
use Rattle.std.proofs.lemmas.List.{take_all}
use Rattle.std.proofs.lemmas.List.Elements.{All-cons, All-append}
use Rattle.jiff_core.specs.Calendar.{days_from_civil, days_in_month}
use Rattle.jiff_core.proofs.SignedLemmas.{signed_arith}
use Rattle.jiff_core.proofs.CalendarLemmas.{days_from_civil-day_count, days_in_month_bounds}
use Rattle.jiff_core.proofs.MarchLemmas.{day_count-early}
use Rattle.jiff_core.proofs.DateLemmas.{days_from_civil-day, days_from_civil-next_month, days_from_civil-next_year, days_from_civil-max, epoch_day_injective}
use Rattle.jiff_core.specs.declared.civil.date.Date.{Date}
use Rattle.jiff_core.specs.Date.{epoch_day}
use Rattle.jiff_fmt.specs.Text.{date_text}
use Rattle.gx_bytes.specs.Blanks.{core_of, IsBare}
use Rattle.gx_bytes.specs.Days.{IsField, IsDateForm, IsInCalendar, IsDay, SpellsDay, AnswersDay, IsDateDay, last_passing, year_of, month_of, day_of_month, two_digits, four_digits, printed_day}
use Rattle.gx_bytes.specs.declared.error.ValueError.{ValueError}
use Rattle.gx_bytes.specs.declared.error.ValueError.TheVariants.{NoValue, OutOfRange, TooDeep, Memory}
use Rattle.gx_bytes.proofs.BlankLemmas.{core_bare}
use Rattle.gx_bytes.proofs.WholeLemmas.{IsNumberByte, bytes_around, digits_bytes}

-- the ten bytes of a date
record Spread (core : List ℕ) (y m d : ℕ) : Type 0 where
  a : ℕ
  b : ℕ
  c : ℕ
  e : ℕ
  f : ℕ
  g : ℕ
  h : ℕ
  i : ℕ
  whole : core ≡ a ∷ b ∷ c ∷ e ∷ 45 ∷ f ∷ g ∷ 45 ∷ h ∷ i ∷ []
  year : IsField 4 (a ∷ b ∷ c ∷ e ∷ []) y
  month : IsField 2 (f ∷ g ∷ []) m
  day : IsField 2 (h ∷ i ∷ []) d

record Two (xs : List ℕ) : Type 0 where
  a : ℕ
  b : ℕ
  same : xs ≡ a ∷ b ∷ []

two_of : (xs : List ℕ) → length xs ≡ 2 → Two xs
two_of (a ∷ b ∷ []) l = record { a = a; b = b; same = refl }
two_of [] l = absurd (omega (arith, l))
two_of (a ∷ []) l = absurd (omega (arith, l))
two_of (a ∷ b ∷ c ∷ xs) l = absurd (omega (arith, l))

record Four (xs : List ℕ) : Type 0 where
  a : ℕ
  b : ℕ
  rest : List ℕ
  same : xs ≡ a ∷ b ∷ rest
  two : length rest ≡ 2

four_of : (xs : List ℕ) → length xs ≡ 4 → Four xs
four_of (a ∷ b ∷ rest) l = record { a = a; b = b; rest = rest; same = refl; two = omega (arith, l) }
four_of [] l = absurd (omega (arith, l))
four_of (a ∷ []) l = absurd (omega (arith, l))

field_same : (k : ℕ) (xs ys : List ℕ) (n : ℕ) → xs ≡ ys → IsField k xs n → IsField k ys n
field_same k xs ys n e h = let P : List ℕ → Type 0 = λ t. IsField k t n in subst P e h

spread : (core : List ℕ) (y m d : ℕ) → IsDateForm core y m d → Spread core y m d
spread core y m d form =
    let year = four_of form.year_text form.year_field.size in
    let low = two_of year.rest year.two in
    let month = two_of form.month_text form.month_field.size in
    let day = two_of form.day_text form.day_field.size in
    let year_is : form.year_text ≡ year.a ∷ year.b ∷ low.a ∷ low.b ∷ [] = year.same ∙ ap (λ t. year.a ∷ year.b ∷ t) low.same in
    record {
      a = year.a;
      b = year.b;
      c = low.a;
      e = low.b;
      f = month.a;
      g = month.b;
      h = day.a;
      i = day.b;
      whole = form.parts
          ∙ ap (λ (t : List ℕ). t ++ 45 ∷ (form.month_text ++ 45 ∷ form.day_text)) year_is
          ∙ ap (λ (t : List ℕ). (year.a ∷ year.b ∷ low.a ∷ low.b ∷ []) ++ 45 ∷ (t ++ 45 ∷ form.day_text)) month.same
          ∙ ap (λ (t : List ℕ). (year.a ∷ year.b ∷ low.a ∷ low.b ∷ []) ++ 45 ∷ ((month.a ∷ month.b ∷ []) ++ 45 ∷ t)) day.same;
      year = field_same 4 _ _ y year_is form.year_field;
      month = field_same 2 _ _ m month.same form.month_field;
      day = field_same 2 _ _ d day.same form.day_field;
    }

-- a field of the text read from its place
sized : (k : ℕ) (xs ys : List ℕ) (n : ℕ) → ys ≡ xs → IsField k xs n → IsField (length ys) ys n
sized k xs ys n e h = record { size = refl; each = rw e h.each; value = h.value ∙ ap (digits_value 10) (sym e) }

pub year_read : (core : List ℕ) (y m d : ℕ) → IsDateForm core y m d → IsField (length (take 4 core)) (take 4 core) y
year_read core y m d form = let s = spread core y m d form in sized 4 _ (take 4 core) y (ap (take 4) s.whole) s.year

pub month_read : (core : List ℕ) (y m d : ℕ) → IsDateForm core y m d → IsField (length (take 2 (drop 5 core))) (take 2 (drop 5 core)) m
month_read core y m d form =
    let s = spread core y m d form in sized 2 _ (take 2 (drop 5 core)) m (ap (λ t. take 2 (drop 5 t)) s.whole) s.month

pub day_read : (core : List ℕ) (y m d : ℕ) → IsDateForm core y m d → IsField (length (take 2 (drop 8 core))) (take 2 (drop 8 core)) d
day_read core y m d form = let s = spread core y m d form in sized 2 _ (take 2 (drop 8 core)) d (ap (λ t. take 2 (drop 8 t)) s.whole) s.day

-- ten bytes with hyphens at their places have the form
pub form_read : (core : List ℕ) (y m d : ℕ) → length core ≡ 10 → get_or core 4 0 ≡ 45 → get_or core 7 0 ≡ 45
    → IsField 4 (take 4 core) y → IsField 2 (take 2 (drop 5 core)) m → IsField 2 (take 2 (drop 8 core)) d → IsDateForm core y m d
form_read core y m d size first second year month day =
    let cut_first : drop 4 core ≡ 45 ∷ drop 5 core = drop-cons core 4 0 (omega arith) ∙ ap (λ c. c ∷ drop 5 core) first in
    let cut_second : drop 7 core ≡ 45 ∷ drop 8 core = drop-cons core 7 0 (omega arith) ∙ ap (λ c. c ∷ drop 8 core) second in
    let behind : drop 5 core ≡ take 2 (drop 5 core) ++ drop 7 core =
    sym (take-append-drop 2 (drop 5 core)) ∙ ap (λ (t : List ℕ). take 2 (drop 5 core) ++ t) (drop-drop 2 5 core) in
    record {
      year_text = take 4 core;
      month_text = take 2 (drop 5 core);
      day_text = drop 8 core;
      parts = sym (take-append-drop 4 core)
          ∙ ap (λ (t : List ℕ). take 4 core ++ t) (cut_first
          ∙ ap (λ (t : List ℕ). 45 ∷ t) (behind ∙ ap (λ (t : List ℕ). take 2 (drop 5 core) ++ t) cut_second));
      year_field = year;
      month_field = month;
      day_field = field_same 2 _ _ d (take_all 2 (drop 8 core) (omega (arith, length-drop 8 core))) day;
    }

pub field_lt : (k : ℕ) (ds : List ℕ) (n : ℕ) → IsField k ds n → n < 10 ^ k
field_lt k ds n h = let lt = digits_value-lt 10 ds h.each in rw h.value (rw (← h.size) lt)

-- up to four digits write a number below 10,000
pub few_digits : (ds : List ℕ) → AllDigits 10 ds → length ds ≤ 4 → digits_value 10 ds < 10000
few_digits ds all few =
    let ten : 0 < 10 = omega arith in
    let most : 10 ^ length ds ≤ 10 ^ 4 = pow-le-pow_right ten few in
    let lt = digits_value-lt 10 ds all in
    omega arith

pub form_bounds : (core : List ℕ) (y m d : ℕ) → IsDateForm core y m d → (y < 10000) × (m < 100) × (d < 100)
form_bounds core y m d form =
    (field_lt 4 _ y form.year_field, field_lt 2 _ m form.month_field, field_lt 2 _ d form.day_field)

-- a text has one year, month and day
pub one_form : (core : List ℕ) (y m d v n e : ℕ) → IsDateForm core y m d → IsDateForm core v n e → (y ≡ v) × (m ≡ n) × (d ≡ e)
one_form core y m d v n e a b = (
  (year_read core y m d a).value ∙ sym (year_read core v n e b).value,
  (month_read core y m d a).value ∙ sym (month_read core v n e b).value,
  (day_read core y m d a).value ∙ sym (day_read core v n e b).value,
)

-- a text spells one day
pub one_day : (text : List ℕ) (a b : ℤ) → SpellsDay text a → SpellsDay text b → a ≡ b
one_day text a b s t =
    let same = one_form (core_of text) s.year s.month s.day t.year t.month t.day s.form t.form in
    s.number.1
    ∙ ap (λ y. days_from_civil (pos y) s.month s.day) same.0
    ∙ ap (λ m. days_from_civil (pos t.year) m s.day) same.1
    ∙ ap (days_from_civil (pos t.year) t.month) same.2
    ∙ sym t.number.1

-- a text of a day is none of a day that the calendar lacks
day_or_none : (text : List ℕ) (n : ℤ) → SpellsDay text n → (y m d : ℕ) → IsDateForm (core_of text) y m d → (IsInCalendar y m d → ⊥) → ⊥
day_or_none text n s y m d form none =
    let same = one_form (core_of text) s.year s.month s.day y m d s.form form in
    none (rw (← same.0, ← same.1, ← same.2) s.number.0)

pub one_answer : (text : List ℕ) (r s : Result ℤ ValueError) → AnswersDay text r → AnswersDay text s → r ≡ s
one_answer text (Ok m) (Ok n) a b = ap Ok (one_day text m n a b)
one_answer text (Ok m) (Err NoValue) a b = absurd (b a.year a.month a.day a.form)
one_answer text (Ok m) (Err OutOfRange) a b = absurd (day_or_none text m a b.0 b.1 b.2 b.3 b.4)
one_answer text (Err NoValue) (Ok n) a b = absurd (a b.year b.month b.day b.form)
one_answer text (Err NoValue) (Err NoValue) a b = refl
one_answer text (Err NoValue) (Err OutOfRange) a b = absurd (a b.0 b.1 b.2 b.3)
one_answer text (Err OutOfRange) (Ok n) a b = absurd (day_or_none text n b a.0 a.1 a.2 a.3 a.4)
one_answer text (Err OutOfRange) (Err NoValue) a b = absurd (b a.0 a.1 a.2 a.3)
one_answer text (Err OutOfRange) (Err OutOfRange) a b = refl
one_answer text (Err TooDeep) s a b = absurd a
one_answer text (Err Memory) s a b = absurd a
one_answer text r (Err TooDeep) a b = absurd b
one_answer text r (Err Memory) a b = absurd b

-- the number is the last of 1 to n that passes
record IsLast (passes : ℕ → Bool) (n k : ℕ) : Type 0 where
  least : 1 ≤ k
  most : k ≤ n
  passed : passes k ≡ true
  next : k < n → passes (suc k) ≡ false

not_first : (passes : ℕ → Bool) (n : ℕ) → passes (suc n) ≡ false → passes 1 ≡ true → 1 ≤ n
not_first passes zero e first = absurd (true≢false (sym first ∙ e))
not_first passes (suc n) e first = omega arith

last_step : (passes : ℕ → Bool) (n k : ℕ) (b : Bool) → passes (suc n) ≡ b → passes 1 ≡ true → (1 ≤ n → IsLast passes n k) → IsLast passes (suc n) (cond b (suc n) k)
last_step passes n k true e first before =
    record { least = omega arith; most = omega arith; passed = e; next = λ lt. absurd (omega arith) }
last_step passes n k false e first before =
    let last = before (not_first passes n e first) in
    record {
      least = last.least;
      most = omega (arith, last.most);
      passed = last.passed;
      next = λ lt. let le : k ≤ n = omega arith in elim (eq-or-lt_of_le le) [ inl same ↦ ap (λ j. passes (suc j)) same ∙ e | inr below ↦ last.next below ];
    }

last_found : (passes : ℕ → Bool) (n : ℕ) → passes 1 ≡ true → 1 ≤ n → IsLast passes n (last_passing passes n)
unfolding last_passing
last_found passes zero first some = absurd (omega arith)
last_found passes (suc n) first some =
    last_step passes n (last_passing passes n) (passes (suc n)) refl first (λ more. last_found passes n first more)

first_day : days_from_civil (pos 1) 1 1 ≡ neg_ℤ (pos 719_162)
first_day =
    omega (arith, signed_arith, days_from_civil-day_count (pos 1) 1 1, day_count-early (pos 1) 10000 1 1 refl (omega arith) (omega arith) (omega arith))

begun : (n : ℤ) → IsDateDay n → int_le (days_from_civil (pos 1) 1 1) n ≡ true
begun n h = let first = first_day in let low = h.0 in grind (arith, signed_arith)

abbrev YearHasBegun : ℤ → ℕ → Bool
YearHasBegun n y = int_le (days_from_civil (pos y) 1 1) n

abbrev MonthHasBegun : ℤ → ℕ → ℕ → Bool
MonthHasBegun n y m = int_le (days_from_civil (pos y) m 1) n

year_found : (n : ℤ) → IsDateDay n → IsLast (YearHasBegun n) 9999 (year_of n)
unfolding year_of
year_found n h = last_found (YearHasBegun n) 9999 (begun n h) (omega arith)

-- the day comes before the next year
year_ends : (n : ℤ) (y : ℕ) → IsLast (YearHasBegun n) 9999 y → n ≤ℤ pos 2_932_896 → n <ℤ days_from_civil (pos (suc y)) 1 1
year_ends n y last most =
    elim (cases_lt y 9999) [
      | inl below ↦ let next = last.next below in grind (arith, signed_arith)
      | inr above ↦
          let year : y ≡ 9999 = omega (arith, last.most) in
          let end = days_from_civil-max in
          let start = days_from_civil-next_year (pos 9999) (pos 10000) (omega (arith, signed_arith)) refl in
          rw year (omega (arith, signed_arith, end, start))
    ]

month_found : (n : ℤ) → IsDateDay n → IsLast (MonthHasBegun n (year_of n)) 12 (month_of n)
unfolding month_of
month_found n h = last_found (MonthHasBegun n (year_of n)) 12 (year_found n h).passed (omega arith)

month_some : (y m : ℕ) → 1 ≤ days_in_month (pos y) m
month_some y m = let bounds = days_in_month_bounds (pos y) m in omega (arith, bounds.1)

before_next : (n : ℤ) (y m k : ℕ) → int_le (days_from_civil (pos y) (suc m) 1) n ≡ false → days_from_civil (pos y) (m + 1) 1 ≡ days_from_civil (pos y) m k +ℤ pos 1
    → days_from_civil (pos y) m k +ℤ pos 1 ≡ days_from_civil (pos y) m 1 +ℤ pos k → n <ℤ (days_from_civil (pos y) m 1 +ℤ pos k)
before_next n y m k next start last_day =
    let same : m + 1 ≡ suc m = omega arith in
    let start' = rw same at start in
    let far = le-false (days_from_civil (pos y) (suc m) 1) n next in
    omega (arith, signed_arith)

-- and before the next month
month_ends : (n : ℤ) (y m : ℕ) → IsLast (MonthHasBegun n y) 12 m → n <ℤ days_from_civil (pos (suc y)) 1 1
    → n <ℤ (days_from_civil (pos y) m 1 +ℤ pos (days_in_month (pos y) m))
month_ends n y m last before =
    let last_day = days_from_civil-day (pos y) m (days_in_month (pos y) m) 1 (month_some y m) (omega arith) in
    elim (cases_lt m 12) [
      | inl below ↦
          let start = days_from_civil-next_month (pos y) m (days_in_month (pos y) m) last.least refl in
          before_next n y m (days_in_month (pos y) m) (last.next below) start last_day
      | inr above ↦
          let december : m ≡ 12 = omega (arith, last.most) in
          let next : pos (suc y) ≡ pos y +ℤ pos 1 = omega (arith, signed_arith) in
          let start = days_from_civil-next_year (pos y) (pos (suc y)) (omega (arith, signed_arith)) next in
          let first = days_from_civil-day (pos y) 12 31 1 (omega arith) (omega arith) in
          rw december (omega (arith, signed_arith, start, first, before))
    ]

abs_of : (z : ℤ) → down z ≤ up z → (up z ≡ unsigned_abs z) × (down z ≡ 0)
abs_of (pos n) h = (refl, refl)
abs_of (negsuc n) h = absurd (omega arith)

day_at : (n first place : ℤ) (days : ℕ) → up first + down n ≤ up n + down first → n <ℤ (first +ℤ pos days)
    → place +ℤ pos 1 ≡ first +ℤ pos (unsigned_abs (n -ℤ first) + 1)
    → IsInRange 1 days (unsigned_abs (n -ℤ first) + 1) × (n ≡ place)
day_at n first place days low ends at_place =
    let size = abs_of (n -ℤ first) (omega (arith, signed_arith)) in
    ((omega arith, omega (arith, signed_arith)), omega (arith, signed_arith))

day_of : (n : ℤ) (y m : ℕ) → int_le (days_from_civil (pos y) m 1) n ≡ true → n <ℤ (days_from_civil (pos y) m 1 +ℤ pos (days_in_month (pos y) m))
    → IsInRange 1 (days_in_month (pos y) m) (unsigned_abs (n -ℤ days_from_civil (pos y) m 1) + 1)
    × (n ≡ days_from_civil (pos y) m (unsigned_abs (n -ℤ days_from_civil (pos y) m 1) + 1))
day_of n y m begun ends =
    let low = le-true (days_from_civil (pos y) m 1) n begun in
    let d = unsigned_abs (n -ℤ days_from_civil (pos y) m 1) + 1 in
    let place = days_from_civil-day (pos y) m d 1 (omega arith) (omega arith) in
    day_at n (days_from_civil (pos y) m 1) (days_from_civil (pos y) m d) (days_in_month (pos y) m) low ends place

-- each day of the years 1 to 9999 has a year, a month and a day
pub day_parts : (n : ℤ) → IsDateDay n → IsDay (year_of n) (month_of n) (day_of_month n) n × (year_of n ≤ 9999)
unfolding day_of_month
day_parts n h =
    let year = year_found n h in
    let month = month_found n h in
    let day = day_of n (year_of n) (month_of n) month.passed (month_ends n (year_of n) (month_of n) month (year_ends n (year_of n) year h.1)) in
    let low : neg_ℤ (pos 9999) ≤ℤ pos (year_of n) = omega (arith, signed_arith) in
    let high : pos (year_of n) ≤ℤ pos 9999 = omega (arith, signed_arith, year.most) in
    (((year.least, ((low, high), (month.least, month.most), day.0)), day.1), year.most)

digit_of : (k : ℕ) → k < 10 → digit_value (48 + k) ≡ k
digit_of k small = grind (arith, nat_tests)

two_field : (n : ℕ) → n < 100 → IsField 2 (two_digits n) n
two_field n small =
    let high = digit_of (n / 10) (omega arith) in
    let low = digit_of (n % 10) (omega arith) in
    record {
      size = refl;
      each = (rw high (omega arith), (rw low (omega arith), tt));
      value = rw (high, low) (omega arith);
    }

four_field : (n : ℕ) → n < 10000 → IsField 4 (four_digits n) n
four_field n small =
    let a = digit_of (n / 100 / 10) (omega arith) in
    let b = digit_of (n / 100 % 10) (omega arith) in
    let c = digit_of (n % 100 / 10) (omega arith) in
    let d = digit_of (n % 100 % 10) (omega arith) in
    record {
      size = refl;
      each = (rw a (omega arith), (rw b (omega arith), (rw c (omega arith), (rw d (omega arith), tt))));
      value = rw (a, b, c, d) (omega arith);
    }

not_blank : (k : ℕ) → k < 10 → is_ascii_whitespace (48 + k) ≡ false
not_blank k small = grind (arith, nat_tests)

date_bare : (y m d : ℕ) → y < 10000 → IsBare (four_digits y ++ 45 ∷ (two_digits m ++ 45 ∷ two_digits d))
date_bare y m d small = record {
  first = not_blank (y / 100 / 10) (omega arith);
  last = not_blank (d % 10) (omega arith);
}

pub day_printed : (n : ℤ) → IsDateDay n → SpellsDay (printed_day n) n
day_printed n h =
    let parts = day_parts n h in
    let y = year_of n in
    let m = month_of n in
    let d = day_of_month n in
    let text = four_digits y ++ 45 ∷ (two_digits m ++ 45 ∷ two_digits d) in
    let most = days_in_month_bounds (pos y) m in
    let form : IsDateForm text y m d = record {
      year_text = four_digits y;
      month_text = two_digits m;
      day_text = two_digits d;
      parts = refl;
      year_field = four_field y (omega (arith, parts.1));
      month_field = two_field m (omega (arith, parts.0.0.1.1));
      day_field = two_field d (omega (arith, parts.0.0.1.2, most.0));
    } in
    let P : List ℕ → Type 0 = λ t. IsDateForm t y m d in
    record {
      year = y;
      month = m;
      day = d;
      form = subst P (sym (core_bare text (date_bare y m d (omega (arith, parts.1))))) form;
      number = parts.0;
    }

-- the calendar's date of that number is printed so
pub date_printed : (date : Date) (n : ℤ) → IsDateDay n → epoch_day date ≡ n → date_text date ≡ printed_day n
date_printed date n h e =
    let parts = day_parts n h in
    let made : Date = record {
      year = pos (year_of n);
      month = month_of n;
      day = day_of_month n;
      year_in = parts.0.0.1.0;
      month_in = parts.0.0.1.1;
      day_in = parts.0.0.1.2;
    } in
    let same = epoch_day_injective date made (e ∙ parts.0.1) in
    rw (same.0, same.1, same.2) refl

-- the bytes of a text of a day
pub day_bytes : (text : List ℕ) (n : ℤ) → SpellsDay text n → All IsNumberByte text
day_bytes text n s = bytes_around text (form_bytes (core_of text) s.year s.month s.day s.form)
  where
    hyphen : IsNumberByte 45
    hyphen = inr (inr (inl refl))

    form_bytes : (core : List ℕ) (y m d : ℕ) → IsDateForm core y m d → All IsNumberByte core
    form_bytes core y m d form =
        let P : List ℕ → Type 0 = λ t. All IsNumberByte t in
        subst P (sym form.parts)
        (All-append IsNumberByte form.year_text (45 ∷ (form.month_text ++ 45 ∷ form.day_text)) (digits_bytes form.year_text form.year_field.each)
        (All-cons IsNumberByte 45 (form.month_text ++ 45 ∷ form.day_text) hyphen
        (All-append IsNumberByte form.month_text (45 ∷ form.day_text) (digits_bytes form.month_text form.month_field.each)
        (All-cons IsNumberByte 45 form.day_text hyphen (digits_bytes form.day_text form.day_field.each)))))
