-- A field in front, and none.
use Rattle.std.proofs.Common.{List, ℕ, sym, subst}
use Rattle.gx_value.specs.Rows.{TakesPart}
use Rattle.gx_value.proofs.RowLemmas.{part_taken, no_part}
use Rattle.gx_value.proofs.rows.take_part.Goals as goal

pub returns-in_err-part : goal.returns-in_err-part
returns-in_err-part c = rw c.from_residual.ensures (no_part c.args.bytes.now c.in_err-part.ensures.none)

pub returns : goal.returns
returns c =
    let P : List ℕ → Type 0 = λ rest. TakesPart c.args.bytes.now c.in_ok-part.part.now rest in
    subst P (sym c.split_at.ensures.back) (part_taken c.args.bytes.now c.in_ok-part.part.now c.in_ok-part.length c.in_ok-part.ensures.found)
