use Rattle.std.proofs.Common.{List, ℕ, ◌++◌, ◌∙◌, ap}
use Rattle.gx_bytes.specs.Varints.{field_bytes}
use Rattle.gx_catalog.proofs.Written.{column_written}
use Rattle.gx_catalog.proofs.writing.push_column.Goals as goal

pub returns : goal.returns
returns c =
    column_written c.args.to.now c.push.new.self c.push_field.new.to c.number.result c.args.column.now c.number.ensures c.in_ok-push.ensures.ok
    (c.in_ok-push_field.ensures.written ∙ ap (λ (l : List ℕ). c.push.new.self ++ field_bytes l) c.as_slice.ensures)
