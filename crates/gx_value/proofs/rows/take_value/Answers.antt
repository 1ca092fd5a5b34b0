-- No part and no value behind byte 1, and one.
use Rattle.std.proofs.Common.{subst}
use Rattle.gx_value.specs.declared.types.Family.{Family}
use Rattle.gx_value.specs.Values.{Datum, datum_of, IsOfFamily}
use Rattle.gx_value.specs.Rows.{IsEncoded}
use Rattle.gx_value.proofs.RowLemmas.{no_field_part, value_taken, no_value}
use Rattle.gx_value.proofs.rows.take_value.Goals as goal

pub returns-in_default-take_part : goal.returns-in_default-take_part
returns-in_default-take_part c =
    no_field_part c.args.kind c.args.bytes.now c.in-Some-behind_byte.more.now c.in-Some-behind_byte.ensures c.in_default-take_part.ensures

pub returns-in-Some-2 : goal.returns-in-Some-2
returns-in-Some-2 c =
    let found = rw c.in-Some-2.is at c.in_ok-value.ensures in
    let valid = rw c.family.ensures at found.0 in
    value_taken c.args.kind c.args.bytes.now c.in-Some-behind_byte.more.now c.in-Some-take_part.part.now c.in-Some-take_part.rest.now (datum_of c.in-Some-2.value) c.in-Some-behind_byte.ensures c.in-Some-take_part.ensures valid found.1

pub returns-in-None : goal.returns-in-None
returns-in-None c =
    let none = rw c.in-None.is at c.in_ok-value.ensures in
    let P : Family → Type 0 = λ f. (d : Datum) → IsOfFamily f d → IsEncoded c.in-Some-take_part.part.now d → ⊥ in
    no_value c.args.kind c.args.bytes.now c.in-Some-behind_byte.more.now c.in-Some-take_part.part.now c.in-Some-take_part.rest.now c.in-Some-behind_byte.ensures c.in-Some-take_part.ensures (subst P c.family.ensures none)
