-- A field in front, and none.
use Rattle.std.proofs.Common.{List, ℕ, sym, subst}
use Rattle.gx_hstore.specs.Steps.{TakesField}
use Rattle.gx_hstore.proofs.EncodingLemmas.{field_taken, no_field}
use Rattle.gx_hstore.proofs.encoding.take_field.Goals as goal

pub returns-in_err-part : goal.returns-in_err-part
returns-in_err-part c = rw c.from_residual.ensures (no_field c.args.bytes.now c.in_err-part.ensures.none)

pub returns : goal.returns
returns c =
    let P : List ℕ → Type 0 = λ rest. TakesField c.args.bytes.now c.in_ok-part.part.now rest in
    subst P (sym c.split_at.ensures.back) (field_taken c.args.bytes.now c.in_ok-part.part.now c.in_ok-part.len c.in_ok-part.ensures.found)
