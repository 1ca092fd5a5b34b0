use Rattle.std.proofs.Common.{◌≡◌, ◌++◌, take}
use Rattle.gx_value.specs.Values.{row_of}
use Rattle.gx_target.specs.Lines.{fields_text}
use Rattle.gx_target.specs.Places.{columns_at}
use Rattle.gx_target.proofs.line.push_fields.Given as goal

abbrev pub invariant-loop-i : goal.invariant-loop-i
invariant-loop-i l = l.to ≡ l.initial.to ++ fields_text l.columns (columns_at l.columns (take l.i l.places)) (row_of l.fields)
