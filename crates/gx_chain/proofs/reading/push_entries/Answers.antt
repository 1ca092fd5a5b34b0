use Rattle.std.proofs.Common.{◌<◌, ◌≡◌, ◌∙◌, ◌∷◌, [], ◌++◌, ℕ, List, length, sym, ap, arith}
use Rattle.gx_chain.proofs.Entries.{entries_some, entries_none}
use Rattle.gx_chain.proofs.reading.push_entries.Goals as goal
use Rattle.gx_chain.proofs.reading.push_entries.Goals.{in-Some+in-Ok+in-Ok-push, in_default}

pub loop-slot-preserved : goal.loop-slot-preserved
loop-slot-preserved c =
    let below : c.loop-slot.slot < length c.args.slots.now.items = let test = c.loop-slot-test.true in omega (arith, test, c.count-slot-end.ensures) in
    elim c.match-item.branch [
      | in-Some+in-Ok+in-Ok-push w ↦ (let e = w.entries-is in
          let same : c.match-item.entries.items ≡ w.push.new.self.items = λ i. (e i).items in
          entries_some c.args.entries.now.items c.loop-slot.entries.items c.match-item.entries.items c.args.page c.args.slots.now.items c.loop-slot.slot w.in-Some.item.now below
          (sym w.in-Some.ensures) c.loop-slot.invariant (same ∙ w.in-Ok-push.ensures.items
          ∙ ap (λ (b : List ℕ). c.loop-slot.entries.items ++ record { page = c.args.page; slot = c.loop-slot.slot; item = b } ∷ []) w.in-Ok.ensures))
      | in_default w ↦ (let e = w.entries-is in
          let same : c.match-item.entries.items ≡ c.loop-slot.entries.items = λ i. (e i).items in
          same ∙ entries_none c.args.entries.now.items c.loop-slot.entries.items c.args.page c.args.slots.now.items c.loop-slot.slot below (sym w.in_default.ensures) c.loop-slot.invariant)
    ]
