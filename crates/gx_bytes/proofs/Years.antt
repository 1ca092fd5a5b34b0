-- A day that a text spells is one of the years 1 to 9999.
use Rattle.std.proofs.Common.{◌≡◌, ℕ, inl, inr, List, refl, ap, arith, ℤ, pos, neg_ℤ, ◌≤ℤ◌}
use Rattle.std.proofs.lemmas.Bool.{cases_lt}
use Rattle.jiff_core.specs.Calendar.{IsCivilDate, day_count, days_from_civil}
use Rattle.jiff_core.proofs.SignedLemmas.{signed_arith}
use Rattle.jiff_core.proofs.CalendarLemmas.{days_from_civil-day_count, day_count_bounds, day_count-lt_year, day_count-day_of_year}
use Rattle.jiff_core.proofs.MarchLemmas.{day_count-early}
use Rattle.gx_bytes.specs.Days.{IsDay, SpellsDay, IsDateDay}

first_day : days_from_civil (pos 1) 1 1 ≡ neg_ℤ (pos 719_162)
first_day =
    omega (arith, signed_arith, days_from_civil-day_count (pos 1) 1 1, day_count-early (pos 1) 10000 1 1 refl (omega arith) (omega arith) (omega arith))

low_day : (y m d : ℕ) (n : ℤ) → IsDay y m d n → neg_ℤ (pos 719_162) ≤ℤ n
low_day y m d n is =
    let first = first_day in
    let start = days_from_civil-day_count (pos 1) 1 1 in
    let count = days_from_civil-day_count (pos y) m d in
    elim (cases_lt 1 y) [
      | inl later ↦
          let january : IsCivilDate (pos 1) 1 1 = ((omega (arith, signed_arith), omega (arith, signed_arith)), (omega arith, omega arith), (omega arith, omega arith)) in
          let above = day_count-lt_year (pos 1) 1 1 (pos y) m d january is.0.1.2.0 (omega (arith, signed_arith)) in
          omega (arith, signed_arith, is.1)
      | inr early ↦
          let year : pos y ≡ pos 1 = ap pos (omega (arith, is.0.0)) in
          let same : day_count (pos y) 1 1 ≡ day_count (pos 1) 1 1 = ap (λ z. day_count z 1 1) year in
          let place = day_count-day_of_year (pos y) m d is.0.1.2.0 in
          omega (arith, signed_arith, is.1, is.0.1.2.0)
    ]

-- a day that a text spells is one of the years 1 to 9999
pub day_in_years : (y m d : ℕ) (n : ℤ) → IsDay y m d n → IsDateDay n
day_in_years y m d n is =
    let bounds = day_count_bounds (pos y) m d is.0.1 in
    let count = days_from_civil-day_count (pos y) m d in
    let high : n ≤ℤ pos 2_932_896 = omega (arith, signed_arith, is.1, bounds.1) in
    (low_day y m d n is, high)

pub spelled_in_years : (text : List ℕ) (n : ℤ) → SpellsDay text n → IsDateDay n
spelled_in_years text n s = day_in_years s.year s.month s.day n s.number
