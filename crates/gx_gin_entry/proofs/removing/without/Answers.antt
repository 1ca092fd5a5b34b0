use Rattle.std.proofs.Common.{◌≡◌, ◌≤◌, ◌<◌, ◌+◌, ◌++◌, ◌∷◌, [], ℕ, List, Some, length, map, take, drop, sym, ◌∙◌, ap, subst, arith}
use Rattle.std.proofs.lemmas.Result.{err_from_is_err_and}
use Rattle.gx_tree.proofs.Causes.{broken_weaker}
use Rattle.gx_gin_entry.specs.EntryTrees.{entry_bytes}
use Rattle.gx_gin_entry.proofs.Removes.{count_low, first_room, second_room, slot_below, slot_low, third_is}
use Rattle.gx_gin_entry.proofs.removing.without.Goals as goal

pub returns-in_err-push_slots-clause-cause : goal.returns-in_err-push_slots-clause-cause
returns-in_err-push_slots-clause-cause c =
    let p = err_from_is_err_and c.from_residual.result c.from_residual.ensures.1 in
    let its = c.args.slots.now.items in
    rw (p.1, p.2)
    (broken_weaker c.in_err-push_slots.field-0.0 c.args.page _ _ (λ refused list front back entry listed cut at.
    refused (map entry_bytes list) listed.is (omega arith) (let low = slot_below its list front back entry listed cut c.args.slot at in omega (arith, low))
    (first_room its list front back entry listed cut c.args.slot at c.new-made.result c.args.kind c.free-free.result c.new-made.ensures c.free-free.ensures)) c.in_err-push_slots.ensures.cause)

pub returns-in_err-push_slots-2-clause-cause : goal.returns-in_err-push_slots-2-clause-cause
returns-in_err-push_slots-2-clause-cause c =
    let p = err_from_is_err_and c.from_residual-in_err-push_slots-2.result c.from_residual-in_err-push_slots-2.ensures.1 in
    let its = c.args.slots.now.items in
    rw (p.1, p.2)
    (broken_weaker c.in_err-push_slots-2.field-0.0 c.args.page _ _ (λ refused list front back entry listed cut at.
    let next = c.in_ok-push_slots.ensures.ok (map entry_bytes list) listed.is (omega arith) (let low = slot_below its list front back entry listed cut c.args.slot at in omega (arith, low)) in
    refused (map entry_bytes list) listed.is
    (slot_low its list front back entry listed cut c.args.slot at c.new-made.result c.push_slots.new.to c.args.kind c.count.result c.free-free.result c.new-made.ensures c.count.ensures next)
    (count_low its list front back entry listed cut c.args.slot at c.new-made.result c.push_slots.new.to c.args.kind c.count.result c.free-free.result c.new-made.ensures c.count.ensures next)
    (second_room its list front back entry listed cut c.args.slot at c.new-made.result c.push_slots.new.to c.args.kind c.count.result c.free-free.result c.new-made.ensures c.count.ensures next c.free-free.ensures))
    c.in_err-push_slots-2.ensures.cause)

pub returns-clause-made : goal.returns-clause-made
returns-clause-made c = λ list front back entry listed cut at.
    let its = c.args.slots.now.items in
    let next = c.in_ok-push_slots.ensures.ok (map entry_bytes list) listed.is (omega arith) (let low = slot_below its list front back entry listed cut c.args.slot at in omega (arith, low)) in
    let order = slot_low its list front back entry listed cut c.args.slot at c.new-made.result c.push_slots.new.to c.args.kind c.count.result c.free-free.result c.new-made.ensures c.count.ensures next in
    let within = count_low its list front back entry listed cut c.args.slot at c.new-made.result c.push_slots.new.to c.args.kind c.count.result c.free-free.result c.new-made.ensures c.count.ensures next in
    third_is its list front back entry listed cut c.args.slot at c.new-made.result c.push_slots.new.to c.args.kind c.count.result c.free-free.result c.new-made.ensures c.count.ensures next
    c.push_slots-2.new.to (c.in_ok-push_slots-2.ensures.ok (map entry_bytes list) listed.is order within)
