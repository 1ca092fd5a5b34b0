use Rattle.std.proofs.Common.{◌≡◌, List, ℕ, [], ◌++◌, length, sym, ◌∙◌, ap, append-nil, arith}
use Rattle.gx_bytes.specs.Varints.{field_bytes}
use Rattle.gx_catalog.proofs.Fronts.{field_same}
use Rattle.gx_catalog.proofs.reading.whole_field.Goals as goal

pub returns-in_err-part : goal.returns-in_err-part
returns-in_err-part c = rw c.from_residual.ensures (λ part fits same. c.in_err-part.ensures part [] tt (same ∙ sym (append-nil (field_bytes part))))

pub returns-else-is_empty : goal.returns-else-is_empty
returns-else-is_empty c = λ part fits same.
    let rest = (field_same c.in_ok-part.part.now part c.in_ok-part.rest.now [] (sym c.in_ok-part.ensures ∙ same ∙ sym (append-nil (field_bytes part)))).1 in
    let none = ap length rest in
    let some = c.if-is_empty.false in
    let is = c.is_empty.ensures in
    grind (arith, none, some, is)
