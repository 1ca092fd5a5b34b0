-- What a refusal tells of checks.
use Rattle.std.specs.Prelude.{List, Some}
use Rattle.gx_model.specs.Checks.{Check, Find}
use Rattle.gx_model.specs.declared.refusal.Refusal.{Refusal}
use Rattle.gx_model.specs.declared.refusal.Refusal.TheVariants.{Fault, Memory}

-- The checks find the fault that the refusal has. Want of memory says nothing of them.
abbrev pub Refuses : List Check → Refusal → Type 0
Refuses checks (Fault number) = Find checks (Some number)
Refuses checks Memory = Unit {0}
