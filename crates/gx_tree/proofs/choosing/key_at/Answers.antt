use Rattle.std.proofs.Common.{◌≡◌, ℕ, ◌+◌, ◌≤◌, List, length, sym, ◌∙◌, ap, Some, arith}
use Rattle.std.proofs.lemmas.List.{length-take-le}
use Rattle.gx_tree.proofs.Chooses.{key_front, key_long, key_read, no_key}
use Rattle.gx_tree.proofs.choosing.key_at.Goals as goal

pub returns-in_err-item : goal.returns-in_err-item
returns-in_err-item c = λ items d are below. absurd (no_key c.args.slots.now.items items c.args.slot are below (sym c.in_err-item.ensures))

pub returns-in_err-end : goal.returns-in_err-end
returns-in_err-end c = λ items d are below.
    let long = key_long c.in_ok-item.item.now _ _ (key_read c.args.slots.now.items items c.args.slot d c.in_ok-item.item.now are below (sym c.in_ok-item.ensures)) in
    absurd (c.in_err-end.ensures (omega (arith, long)))

pub slice_bounds-result-end : goal.slice_bounds-result-end
slice_bounds-result-end c = sym (length-take-le c.in_ok-end.end c.in_ok-item.item.now (let place = c.in_ok-end.ensures in omega (arith, place)))

pub returns : goal.returns
returns c = λ items d are below.
    ap (λ (l : List ℕ). Some l)
    (key_front c.in_ok-item.item.now _ _ c.in_ok-end.end (key_read c.args.slots.now.items items c.args.slot d c.in_ok-item.item.now are below (sym c.in_ok-item.ensures)) (let place = c.in_ok-end.ensures in omega (arith, place)))
