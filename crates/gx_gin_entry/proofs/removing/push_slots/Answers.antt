use Rattle.std.proofs.Common.{◌≡◌, ◌≤◌, ◌<◌, ◌++◌, ◌∷◌, [], ℕ, List, Some, None, length, map, take, drop, sym, ◌∙◌, ap, subst, arith}
use Rattle.gx_slot.specs.Slots.{Slots}
use Rattle.gx_tree.proofs.Causes.{broken_is}
use Rattle.gx_tree.proofs.Gathers.{no_slot, slot_item}
use Rattle.gx_gin_entry.proofs.Removes.{begins_none, goes_on, has_room}
use Rattle.gx_gin_entry.proofs.removing.push_slots.Goals as goal

pub loop-slot-init : goal.loop-slot-init
loop-slot-init c = λ items are order fits. begins_none c.args.to.now items c.args.from

pub returns-in_default-clause-cause : goal.returns-in_default-clause-cause
returns-in_default-clause-cause c =
    broken_is c.broken.result c.args.page _ c.broken.ensures (λ items are order fits room.
    let test = c.loop-slot-test.true in
    no_slot items c.loop-slot.slot (omega (arith, test, fits)) (slot_item c.args.slots.now.items items c.loop-slot.slot None are c.in_default.ensures))

pub returns-in-Err-clause-cause : goal.returns-in-Err-clause-cause
returns-in-Err-clause-cause c =
    broken_is c.broken-in-Err.result c.args.page _ c.broken-in-Err.ensures (λ items are order fits room.
    has_room c.args.to.now c.loop-slot.to items c.args.from c.loop-slot.slot c.args.end c.in-Err.field-0.free c.in-Some.item.now (let low = c.loop-slot.auto.slot in omega (arith, low)) c.loop-slot-test.true fits
    (slot_item c.args.slots.now.items items c.loop-slot.slot (Some c.in-Some.item.now) are c.in-Some.ensures) (c.loop-slot.invariant items are order fits)
    c.in-Err.ensures.refused.0 c.in-Err.ensures.refused.1 room)

pub loop-slot-preserved : goal.loop-slot-preserved
loop-slot-preserved c = λ items are order fits.
    goes_on c.args.to.now c.loop-slot.to c.add.new.self items c.args.from c.loop-slot.slot c.in-Some.item.now (let low = c.loop-slot.auto.slot in omega (arith, low))
    (slot_item c.args.slots.now.items items c.loop-slot.slot (Some c.in-Some.item.now) are c.in-Some.ensures) (c.loop-slot.invariant items are order fits) c.in-Ok.ensures.added

pub returns-clause-ok : goal.returns-clause-ok
returns-clause-ok c = λ items are order fits.
    let past = c.loop-slot-test.false in
    let most = c.loop-slot.auto.slot-end order in
    let ends : c.loop-slot.slot ≡ c.args.end = omega (arith, past, most) in
    c.loop-slot.invariant items are order fits ∙ ap (λ (n : ℕ). record c.args.to.now { items = c.args.to.now.items ++ map (λ (i : List ℕ). Some i) (drop c.args.from (take n items)) }) ends
