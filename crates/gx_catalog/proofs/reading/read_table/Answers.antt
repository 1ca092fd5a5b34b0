use Rattle.gx_catalog.proofs.Fronts.{table_none1, table_none2, table_none3, table_none4, table_read}
use Rattle.gx_catalog.proofs.reading.read_table.Goals as goal

pub returns-in_default : goal.returns-in_default
returns-in_default c = table_none1 c.args.bytes.now c.in_default.ensures

pub returns-in_default-take_heap : goal.returns-in_default-take_heap
returns-in_default-take_heap c = table_none2 c.args.bytes.now c.in-Some.behind.now c.in-Some.number c.in-Some.ensures.0 c.in-Some.ensures.1 c.in_default-take_heap.ensures

pub returns-in_default-2 : goal.returns-in_default-2
returns-in_default-2 c =
    let none = rw c.in_default-2.is at c.in_ok-columns.ensures in
    table_none3 c.args.bytes.now c.in-Some.behind.now c.in-Some.number c.in-Some.ensures.0 c.in-Some.ensures.1 c.in-Some-take_heap.more.now c.in-Some-take_heap.heap c.in-Some-take_heap.ensures.0
    c.in-Some-take_heap.ensures.1 none

pub returns-in_default-whole_field : goal.returns-in_default-whole_field
returns-in_default-whole_field c =
    let some = rw c.in-Some-2.is at c.in_ok-columns.ensures in
    table_none4 c.args.bytes.now c.in-Some.behind.now c.in-Some.number c.in-Some.ensures.0 c.in-Some.ensures.1 c.in-Some-take_heap.more.now c.in-Some-take_heap.heap c.in-Some-take_heap.ensures.0
    c.in-Some-take_heap.ensures.1 c.in-Some-2.rest.now c.in-Some-2.columns some c.in_default-whole_field.ensures

pub returns : goal.returns
returns c =
    let some = rw c.in-Some-2.is at c.in_ok-columns.ensures in
    rw c.in_ok-name.ensures
    (table_read c.args.bytes.now c.in-Some.behind.now c.in-Some.number c.in-Some.ensures.0 c.in-Some.ensures.1 c.in-Some-take_heap.more.now c.in-Some-take_heap.heap c.in-Some-take_heap.ensures.0
    c.in-Some-take_heap.ensures.1 c.in-Some-2.rest.now c.in-Some-2.columns some c.in-Some-whole_field.name.now c.in-Some-whole_field.ensures)
