use Rattle.std.proofs.Common.{◌≡◌, ◌<◌, ◌+◌, ℕ, Bool, bytes_eq, cond, List, length, set, refl, sym, ◌∙◌, ap, add-one, arith}
use Rattle.gx_catalog.specs.declared.info.IndexInfo.{IndexInfo}
use Rattle.gx_catalog.proofs.Placed.{half_changed}
use Rattle.gx_catalog.proofs.memory.set_nulls_of.Goals as goal
use Rattle.gx_catalog.proofs.memory.set_nulls_of.Goals.{then-is_same, else-is_same}

pub loop-index-preserved : goal.loop-index-preserved
loop-index-preserved c =
    let change : IndexInfo → IndexInfo = λ i. cond (bytes_eq i.name c.args.name.now) (record i { nulls = c.args.nulls }) i in
    let same = ap (λ (l : List IndexInfo). length l) c.deref_mut-index-items.ensures.value in
    let test = c.loop-index-test.true in
    let below : c.loop-index.index-index < length c.args.indexes.now.items = omega (arith, same, test) in
    let name = ap (λ (l : List ℕ). bytes_eq l c.args.name.now) (ap (λ (i : IndexInfo). i.name) c.index-item.is ∙ sym c.as_slice.ensures) ∙ sym c.is_same.ensures in
    elim c.if-is_same.branch [
      | then-is_same w ↦
          half_changed change c.args.indexes.now.items c.loop-index.index-items c.if-is_same.index-items c.loop-index.index-index (c.loop-index.index-index + 1) c.index-item.result
          (add-one c.loop-index.index-index) below c.index-item.is c.loop-index.invariant (record c.index-item.result { nulls = c.args.nulls })
          (ap (λ (b : Bool). cond b (record c.index-item.result { nulls = c.args.nulls }) c.index-item.result) (sym (name ∙ w.if-is_same.true)))
          (w.index-items-is ∙ ap (λ (x : IndexInfo). set c.loop-index.index-items c.loop-index.index-index (record x { nulls = c.args.nulls })) (sym c.index-item.is))
      | else-is_same w ↦
          half_changed change c.args.indexes.now.items c.loop-index.index-items c.if-is_same.index-items c.loop-index.index-index (c.loop-index.index-index + 1) c.index-item.result
          (add-one c.loop-index.index-index) below c.index-item.is c.loop-index.invariant c.index-item.result
          (sym (ap (λ (b : Bool). cond b (record c.index-item.result { nulls = c.args.nulls }) c.index-item.result) (name ∙ w.if-is_same.false)))
          (w.index-items-is ∙ ap (λ (x : IndexInfo). set c.loop-index.index-items c.loop-index.index-index x) (sym c.index-item.is))
    ]
