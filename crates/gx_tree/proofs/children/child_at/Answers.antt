use Rattle.std.proofs.Common.{◌≡◌, ℕ, ◌+◌, ◌≤◌, length, sym, ◌∙◌, ap, Some, arith}
use Rattle.gx_tree.proofs.Linked.{no_item, long, child_is}
use Rattle.gx_tree.proofs.children.child_at.Goals as goal

pub returns-in_err-item : goal.returns-in_err-item
returns-in_err-item c = λ items front child are fit below. absurd (no_item c.args.slots.now.items items c.args.slot (front, child) are fit below (sym c.in_err-item.ensures))

pub returns-in_err-front : goal.returns-in_err-front
returns-in_err-front c = λ items front child are fit below.
    let more : 8 ≤ length c.in_ok-item.item.now = long c.args.slots.now.items items c.args.slot (front, child) are fit below c.in_ok-item.item.now (sym c.in_ok-item.ensures) in
    absurd (c.in_err-front.ensures more)

pub returns-in_err-child : goal.returns-in_err-child
returns-in_err-child c = λ items front child are fit below.
    let more : 8 ≤ length c.in_ok-item.item.now = long c.args.slots.now.items items c.args.slot (front, child) are fit below c.in_ok-item.item.now (sym c.in_ok-item.ensures) in
    let past = c.in_err-child.ensures.none in
    let place = c.in_ok-front.ensures in
    absurd (omega (arith, more, past, place))

pub returns : goal.returns
returns c = λ items front child are fit below.
    let place = c.in_ok-front.ensures in
    ap (λ (n : ℕ). Some n) (child_is c.args.slots.now.items items c.args.slot (front, child) are fit below c.in_ok-item.item.now (sym c.in_ok-item.ensures)
    c.in_ok-front.front c.in_ok-child.child (let long = c.in_ok-child.ensures.some.0 in omega (arith, place, long)) (omega arith) c.in_ok-child.ensures.some.1)
