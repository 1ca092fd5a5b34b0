use Rattle.std.proofs.Common.{◌≡◌, ◌≤◌, ◌<◌, ◌++◌, ◌∷◌, [], ℕ, List, Some, None, length, map, take, drop, sym, ◌∙◌, ap, subst, arith}
use Rattle.std.proofs.lemmas.Result.{err_from_is_err_and}
use Rattle.gx_tree.proofs.Gathers.{no_slot, slot_item, slots_more, slots_none}
use Rattle.gx_tree.proofs.gathering.push_slots.Goals as goal

pub loop-slot-init : goal.loop-slot-init
loop-slot-init c = λ items are order fits. slots_none c.args.to.now items c.args.from (omega (arith, order, fits))

pub returns-in_default-clause-cause : goal.returns-in_default-clause-cause
returns-in_default-clause-cause c = (
  λ e. cc,
  λ items are order fits.
      let test = c.loop-slot-test.true in
      no_slot items c.loop-slot.slot (omega (arith, test, fits)) (slot_item c.args.slots.now.items items c.loop-slot.slot None are c.in_default.ensures),
)

pub returns-in_err-push_new-clause-cause : goal.returns-in_err-push_new-clause-cause
returns-in_err-push_new-clause-cause c =
    let p = err_from_is_err_and c.from_residual.result c.from_residual.ensures.1 in
    rw (p.1, p.2, c.in_err-push_new.ensures.err) tt

pub loop-slot-preserved : goal.loop-slot-preserved
loop-slot-preserved c = λ items are order fits.
    c.in_ok-push_new.ensures.ok
    ∙ slots_more c.args.to.now c.loop-slot.to items c.args.from c.loop-slot.slot c.in-Some.item.now (let low = c.loop-slot.auto.slot in omega (arith, low)) (slot_item c.args.slots.now.items items c.loop-slot.slot (Some c.in-Some.item.now) are c.in-Some.ensures)
    (c.loop-slot.invariant items are order fits)

pub returns-clause-ok : goal.returns-clause-ok
returns-clause-ok c = λ items are order fits.
    let past = c.loop-slot-test.false in
    let most = c.loop-slot.auto.slot-end order in
    let ends : c.loop-slot.slot ≡ c.args.end = omega (arith, past, most) in
    c.loop-slot.invariant items are order fits ∙ ap (λ (n : ℕ). c.args.to.now ++ drop c.args.from (take n items)) ends
