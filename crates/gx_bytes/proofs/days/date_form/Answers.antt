use Rattle.std.proofs.Common.{◌≡◌, ◌≤◌, ◌+◌, ℕ, List, length, take, drop, length-take, length-drop, arith}
use Rattle.gx_bytes.specs.Days.{IsField}
use Rattle.gx_bytes.proofs.DayLemmas.{year_read, month_read, day_read, form_read, field_lt}
use Rattle.gx_bytes.proofs.days.date_form.Goals as goal

-- a field cut out of ten bytes has its size
counted : (k i : ℕ) (core : List ℕ) (n : ℕ) → length core ≡ 10 → i + k ≤ 10 → IsField (length (take k (drop i core))) (take k (drop i core)) n
    → IsField k (take k (drop i core)) n
counted k i core n ten inside h = record {
  size = omega (arith, length-take k (drop i core), length-drop i core);
  each = h.each;
  value = h.value;
}

pub returns-in_default : goal.returns-in_default
returns-in_default c = λ y m d form. c.in_default.ensures y (year_read c.args.core.now y m d form)

pub returns-in_default-field_of : goal.returns-in_default-field_of
returns-in_default-field_of c = λ y m d form. c.in_default-field_of.ensures m (month_read c.args.core.now y m d form)

pub returns-in_default-field_of-2 : goal.returns-in_default-field_of-2
returns-in_default-field_of-2 c = λ y m d form. c.in_default-field_of-2.ensures d (day_read c.args.core.now y m d form)

pub overflow_cast-result-2 : goal.overflow_cast-result-2
overflow_cast-result-2 c =
    let field = counted 2 8 c.args.core.now c.in-Some-field_of-2.day c.if-core-ne10.false (omega arith) c.in-Some-field_of-2.ensures in
    let lt = field_lt 2 _ _ field in
    omega arith

pub returns : goal.returns
returns c =
    let core = c.args.core.now in
    let year = counted 4 0 core c.in-Some.year c.if-core-ne10.false (omega arith) c.in-Some.ensures in
    let month = counted 2 5 core c.in-Some-field_of.month c.if-core-ne10.false (omega arith) c.in-Some-field_of.ensures in
    let day = counted 2 8 core c.in-Some-field_of-2.day c.if-core-ne10.false (omega arith) c.in-Some-field_of-2.ensures in
    form_read core _ _ _ c.if-core-ne10.false c.if-core-ne45.false c.if-core-ne45-2.false year month day
