use Rattle.std.proofs.Common.{List, ℕ, [], ◌∷◌, ◌++◌, ◌∙◌, ap}
use Rattle.gx_bytes.specs.Varints.{field_bytes}
use Rattle.gx_value.specs.declared.fields.Column.{Column}
use Rattle.gx_catalog.specs.Items.{columns_bytes}
use Rattle.gx_catalog.proofs.Written.{table_written}
use Rattle.gx_catalog.proofs.writing.table_item.Goals as goal

pub returns-clause-bytes : goal.returns-clause-bytes
returns-clause-bytes c =
    table_written c.push.new.self c.push_u32.new.to c.push_heap.new.to c.push_columns.new.to c.push_field.new.to (record c.args.table.now { heap = c.args.heap.now })
    (c.in_ok-push.ensures.ok ∙ ap (λ (l : List ℕ). l ++ 1 ∷ []) c.new-item.ensures) c.in_ok-push_u32.ensures c.in_ok-push_heap.ensures.bytes
    (c.in_ok-push_columns.ensures ∙ ap (λ (l : List Column). c.push_heap.new.to ++ columns_bytes l) c.as_slice.ensures)
    (c.in_ok-push_field.ensures.written ∙ ap (λ (l : List ℕ). c.push_columns.new.to ++ field_bytes l) c.as_slice-2.ensures)
