use Rattle.std.proofs.Common.{◌<◌, ◌∙◌, ◌∷◌, [], ◌++◌, inr, length, refl, sym, arith}
use Rattle.gx_heap.proofs.Entries.{rows_none, rows_some, whole_on}
use Rattle.gx_heap.proofs.reading.push_rows.Goals as goal
use Rattle.gx_heap.proofs.reading.push_rows.Goals.{in-Some+in-Some-parts_of+in-Ok, in_default}

pub returns-in_default-parts_of-clause-cause : goal.returns-in_default-parts_of-clause-cause
returns-in_default-parts_of-clause-cause c =
    let is_error = c.no_row.ensures in
    rw is_error (inr (
      (refl, λ same. omega (arith, same)),
      λ whole.
          let short = c.in_default-parts_of.ensures.none in
          let long = whole_on c.args.page c.loop-slot.slot c.args.slots.now.items c.in-Some.item.now (sym c.in-Some.ensures) whole in omega (arith, short, long),
    ))

pub loop-slot-preserved : goal.loop-slot-preserved
loop-slot-preserved c =
    let below : c.loop-slot.slot < length c.args.slots.now.items = let test = c.loop-slot-test.true in omega (arith, test, c.count-slot-end.ensures) in
    elim c.match-item.branch [
      | in-Some+in-Some-parts_of+in-Ok w ↦
          rows_some c.args.rows.now c.loop-slot.rows c.match-item.rows c.args.page c.args.slots.now.items c.loop-slot.slot w.in-Some.item.now below (sym w.in-Some.ensures) c.loop-slot.invariant
          (w.rows-is ∙ w.in-Ok.ensures.ok
          ∙ λ i. c.loop-slot.rows ++ (record { number = w.in-Some-parts_of.ensures.some.0 i; page = c.args.page; slot = c.loop-slot.slot }, w.in-Some-parts_of.ensures.some.1 i) ∷ [])
      | in_default w ↦
          w.rows-is ∙ rows_none c.args.rows.now c.loop-slot.rows c.args.page c.args.slots.now.items c.loop-slot.slot below (sym w.in_default.ensures) c.loop-slot.invariant
    ]
