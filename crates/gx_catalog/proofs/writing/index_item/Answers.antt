use Rattle.std.proofs.Common.{List, ℕ, [], ◌∷◌, ◌++◌, ◌∙◌, ap}
use Rattle.gx_bytes.specs.Varints.{field_bytes}
use Rattle.gx_catalog.proofs.Written.{index_written}
use Rattle.gx_catalog.proofs.writing.index_item.Goals as goal

pub returns-clause-bytes : goal.returns-clause-bytes
returns-clause-bytes c =
    index_written c.push.new.self c.push_u32.new.to c.push_class.new.to c.push_u64.new.to c.push_u64-2.new.to c.push_field.new.to (record c.args.index.now { nulls = c.args.nulls })
    (c.in_ok-push.ensures.ok ∙ ap (λ (l : List ℕ). l ++ 3 ∷ []) c.new-item.ensures) c.in_ok-push_u32.ensures c.in_ok-push_class.ensures c.in_ok-push_u64.ensures c.in_ok-push_u64-2.ensures
    (c.in_ok-push_field.ensures.written ∙ ap (λ (l : List ℕ). c.push_u64-2.new.to ++ field_bytes l) c.as_slice.ensures)
