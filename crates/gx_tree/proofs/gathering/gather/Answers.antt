use Rattle.std.proofs.Common.{◌≡◌, ◌≤◌, ◌<◌, ◌++◌, ◌∷◌, [], ℕ, List, Some, None, length, map, take, drop, sym, ◌∙◌, ap, subst, arith}
use Rattle.std.specs.Option.{option_map}
use Rattle.std.proofs.lemmas.Result.{err_from_is_err_and}
use Rattle.gx_tree.proofs.Causes.{broken_weaker}
use Rattle.gx_tree.proofs.Gathers.{count_of, gathered}
use Rattle.gx_tree.proofs.gathering.gather.Goals as goal

pub returns-in_err-push_slots-clause-cause : goal.returns-in_err-push_slots-clause-cause
returns-in_err-push_slots-clause-cause c =
    let p = err_from_is_err_and c.from_residual.result c.from_residual.ensures.1 in
    rw (p.1, p.2)
    (broken_weaker c.in_err-push_slots.field-0.0 c.args.page _ _ (λ refused items are order fits. refused items are (omega arith) (omega (arith, order, fits))) c.in_err-push_slots.ensures.cause)

pub returns-in_err-push_slots-2-clause-cause : goal.returns-in_err-push_slots-2-clause-cause
returns-in_err-push_slots-2-clause-cause c =
    let p = err_from_is_err_and c.from_residual-in_err-push_slots-2.result c.from_residual-in_err-push_slots-2.ensures.1 in
    rw (p.1, p.2)
    (broken_weaker c.in_err-push_slots-2.field-0.0 c.args.page _ _ (λ refused items are order fits.
    let e = count_of c.args.slots.now.items items c.count.result are c.count.ensures in
    refused items are (omega (arith, e, fits)) (omega (arith, e))) c.in_err-push_slots-2.ensures.cause)

pub returns-clause-items : goal.returns-clause-items
returns-clause-items c = λ items are order fits.
    let e = count_of c.args.slots.now.items items c.count.result are c.count.ensures in
    gathered items c.push_slots.new.to c.push_new.new.items c.push_other.new.items c.push_slots-2.new.to c.args.place c.args.behind c.count.result c.args.one.now (option_map (λ item. item.now) c.args.other) fits e
    (c.in_ok-push_slots.ensures.ok items are (omega arith) (omega (arith, order, fits)) ∙ ap (λ (l : List (List ℕ)). l ++ drop 0 (take c.args.place items)) c.new-items.ensures)
    c.in_ok-push_new.ensures.ok c.in_ok-push_other.ensures.ok
    (c.in_ok-push_slots-2.ensures.ok items are (omega (arith, e, fits)) (omega (arith, e)))
