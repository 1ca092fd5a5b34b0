use Rattle.std.proofs.Common.{refl, rules, to_z-of_z, FitsSigned, w32}
use Rattle.gx_scalar.proofs.TextLemmas.{day_fault}
use Rattle.gx_bytes.proofs.Years.{spelled_in_years}
use Rattle.gx_scalar.proofs.text.date_of.Goals as goal

pub returns-in-Ok : goal.returns-in-Ok
returns-in-Ok c =
    let fits : FitsSigned w32 c.in-Ok.day = search rules in
    simp to_z-of_z ((refl, spelled_in_years c.args.text.now c.in-Ok.day c.in-Ok.ensures), c.in-Ok.ensures)

pub returns-in-Err : goal.returns-in-Err
returns-in-Err c = day_fault c.args.text.now c.in-Err.fault c.in-Err.ensures
