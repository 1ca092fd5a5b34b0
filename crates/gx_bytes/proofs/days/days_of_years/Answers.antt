use Rattle.gx_bytes.specs.Days.{year_of, month_of, day_of_month}
use Rattle.gx_bytes.proofs.DayLemmas.{day_parts}
use Rattle.gx_bytes.proofs.Years.{day_in_years, spelled_in_years}
use Rattle.gx_bytes.proofs.days.days_of_years.Goals as goal

pub returns-clause-are : goal.returns-clause-are
returns-clause-are c = day_in_years

pub returns-clause-only : goal.returns-clause-only
returns-clause-only c = λ n is. (year_of n, month_of n, day_of_month n, (day_parts n is).0, (day_parts n is).1)

pub returns-clause-spelled : goal.returns-clause-spelled
returns-clause-spelled c = spelled_in_years
