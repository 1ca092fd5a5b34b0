use Rattle.std.proofs.Common.{◌≡◌, ◌<◌, ◌==◌, ◌+◌, ℕ, Bool, cond, List, length, set, refl, sym, ◌∙◌, ap, add-one, arith}
use Rattle.std.proofs.lemmas.Bool.Decides.{Decides-eqb}
use Rattle.gx_catalog.specs.declared.info.TableInfo.{TableInfo}
use Rattle.gx_catalog.proofs.Changes.{test_differs}
use Rattle.gx_catalog.proofs.Placed.{half_changed}
use Rattle.gx_catalog.proofs.memory.set_heap_of.Goals as goal
use Rattle.gx_catalog.proofs.memory.set_heap_of.Goals.{then-table-number, else-table-number}

pub loop-table-preserved : goal.loop-table-preserved
loop-table-preserved c =
    let change : TableInfo → TableInfo = λ t. cond (t.number == c.args.number) (record t { heap = c.args.heap }) t in
    let same = ap (λ (l : List TableInfo). length l) c.deref_mut-table-items.ensures.value in
    let test = c.loop-table-test.true in
    let below : c.loop-table.table-index < length c.args.tables.now.items = omega (arith, same, test) in
    let number = ap (λ (t : TableInfo). t.number) c.table-item.is in
    elim c.if-table-number.branch [
      | then-table-number w ↦
          half_changed change c.args.tables.now.items c.loop-table.table-items c.if-table-number.table-items c.loop-table.table-index (c.loop-table.table-index + 1) c.table-item.result
          (add-one c.loop-table.table-index) below c.table-item.is c.loop-table.invariant (record c.table-item.result { heap = c.args.heap })
          (ap (λ (b : Bool). cond b (record c.table-item.result { heap = c.args.heap }) c.table-item.result) (sym ((Decides-eqb c.table-item.result.number c.args.number).1 (number ∙ w.if-table-number.true))))
          (w.table-items-is ∙ ap (λ (t : TableInfo). set c.loop-table.table-items c.loop-table.table-index (record t { heap = c.args.heap })) (sym c.table-item.is))
      | else-table-number w ↦
          half_changed change c.args.tables.now.items c.loop-table.table-items c.if-table-number.table-items c.loop-table.table-index (c.loop-table.table-index + 1) c.table-item.result
          (add-one c.loop-table.table-index) below c.table-item.is c.loop-table.invariant c.table-item.result
          (sym (ap (λ (b : Bool). cond b (record c.table-item.result { heap = c.args.heap }) c.table-item.result) (test_differs (λ a b. a == b) Decides-eqb c.table-item.result.number c.args.number (λ same. w.if-table-number.false (sym number ∙ same)))))
          (w.table-items-is ∙ ap (λ (x : TableInfo). set c.loop-table.table-items c.loop-table.table-index x) (sym c.table-item.is))
    ]
