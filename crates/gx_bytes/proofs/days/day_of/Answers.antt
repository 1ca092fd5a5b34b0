use Rattle.std.proofs.Common.{◌≡◌, ℕ, List, subst, sym}
use Rattle.gx_bytes.specs.Days.{IsDateForm}
use Rattle.gx_bytes.proofs.DayLemmas.{form_bounds}
use Rattle.gx_bytes.proofs.days.day_of.Goals as goal

moved : (a b : List ℕ) (y m d : ℕ) → a ≡ b → IsDateForm a y m d → IsDateForm b y m d
moved a b y m d e form = let P : List ℕ → Type 0 = λ t. IsDateForm t y m d in subst P e form

pub returns-in_default : goal.returns-in_default
returns-in_default c = λ y m d form. c.in_default.ensures y m d (moved _ _ y m d (sym c.trimmed.ensures) form)

pub day_number-requires-clause-year : goal.day_number-requires-clause-year
day_number-requires-clause-year c = (form_bounds _ _ _ _ c.in-Some.ensures).0

pub day_number-requires-clause-month : goal.day_number-requires-clause-month
day_number-requires-clause-month c = (form_bounds _ _ _ _ c.in-Some.ensures).1

pub day_number-requires-clause-day : goal.day_number-requires-clause-day
day_number-requires-clause-day c = (form_bounds _ _ _ _ c.in-Some.ensures).2
