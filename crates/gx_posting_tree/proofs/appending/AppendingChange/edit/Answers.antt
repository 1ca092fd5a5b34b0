use Rattle.std.proofs.Common.{◌-◌, List, length, Some, None, sym, ◌∙◌, ap, arith}
use Rattle.gx_pages.specs.declared.row.RowRef.{RowRef}
use Rattle.gx_tree.proofs.Gathers.{count_of, no_slot, slot_item}
use Rattle.gx_posting_tree.proofs.Edits.{allows_at, edit_longer, edit_new, found_last, last_low, list_at}
use Rattle.gx_posting_tree.proofs.appending.AppendingChange.edit.Goals as goal

pub returns-then-count-eq0 : goal.returns-then-count-eq0
returns-then-count-eq0 c = λ least end items are have allowed from under.
    let many = count_of c.args.slots.now.items items c.count-count.result are c.count-count.ensures in
    let none = c.if-count-eq0.true in
    let fit = c.in_ok-item.ensures.spelled.fit.0.0 in
    edit_new c.args.self.now.row (omega (arith, fit)) least end items have allowed from under 0 c.in_ok-item.item (sym none ∙ many) c.in_ok-item.ensures.spelled c.in_ok-item.ensures.short

pub returns-in_default : goal.returns-in_default
returns-in_default c = λ least end items are have allowed.
    let many = count_of c.args.slots.now.items items c.count-count.result are c.count-count.ensures in
    let some = c.if-count-eq0.false in
    no_slot items (c.count-count.result - 1) (omega (arith, many, some)) (slot_item c.args.slots.now.items items (c.count-count.result - 1) None are c.in_default.ensures)

pub returns-in_default-last_posting : goal.returns-in_default-last_posting
returns-in_default-last_posting c = λ least end items are have allowed.
    let list = list_at items have.rows (c.count-count.result - 1) c.in-Some.list.now have.spelled (slot_item c.args.slots.now.items items (c.count-count.result - 1) (Some c.in-Some.list.now) are c.in-Some.ensures) in
    let none = c.in_default-last_posting.ensures.none list.0 list.1 in
    let some = list.2 in
    let size = ap (λ (l : List RowRef). length l) none in
    omega (arith, some, size)

pub returns-then-number-before : goal.returns-then-number-before
returns-then-number-before c = λ least end items are have allowed.
    let at = slot_item c.args.slots.now.items items (c.count-count.result - 1) (Some c.in-Some.list.now) are c.in-Some.ensures in
    let list = list_at items have.rows (c.count-count.result - 1) c.in-Some.list.now have.spelled at in
    let last = found_last c.in-Some.list.now c.in-Some-last_posting.last c.in-Some-last_posting.ensures.some list.0 list.1 in
    let low = last_low list.0 c.in-Some-last_posting.last c.args.self.now.row.number last (allows_at c.args.self.now.row items (c.count-count.result - 1) c.in-Some.list.now allowed at list.0 list.1) in
    let test = c.if-number-before.true in
    omega (arith, low, test)

pub returns-then-size-le-LONGEST : goal.returns-then-size-le-LONGEST
returns-then-size-le-LONGEST c = λ least end items are have allowed from under.
    let many = count_of c.args.slots.now.items items c.count-count.result are c.count-count.ensures in
    let some = c.if-count-eq0.false in
    let size = c.len-size.ensures in
    let test = c.if-size-le-LONGEST.true in
    edit_longer c.args.self.now.row (omega arith) least end items have allowed from under (c.count-count.result - 1) c.count-count.result c.in-Some.list.now c.in_ok-longer.longer (omega (arith, some)) many
    (slot_item c.args.slots.now.items items (c.count-count.result - 1) (Some c.in-Some.list.now) are c.in-Some.ensures)
    (λ rows spells. c.in_ok-longer.ensures rows spells (found_last c.in-Some.list.now c.in-Some-last_posting.last c.in-Some-last_posting.ensures.some rows spells))
    (omega (arith, size, test))

pub returns : goal.returns
returns c = λ least end items are have allowed from under.
    let many = count_of c.args.slots.now.items items c.count-count.result are c.count-count.ensures in
    let fit = c.in_ok-fresh.ensures.spelled.fit.0.0 in
    edit_new c.args.self.now.row (omega (arith, fit)) least end items have allowed from under c.count-count.result c.in_ok-fresh.fresh many c.in_ok-fresh.ensures.spelled c.in_ok-fresh.ensures.short
