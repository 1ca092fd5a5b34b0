use Rattle.gx_catalog.proofs.Fronts.{index_none1, index_none2, index_none3, index_none4, index_none5, index_read}
use Rattle.gx_catalog.proofs.reading.read_index.Goals as goal

pub returns-in_default : goal.returns-in_default
returns-in_default c = index_none1 c.args.bytes.now c.in_default.ensures

pub returns-in_default-take_class : goal.returns-in_default-take_class
returns-in_default-take_class c = index_none2 c.args.bytes.now c.in-Some.behind.now c.in-Some.table c.in-Some.ensures.0 c.in-Some.ensures.1 c.in_default-take_class.ensures

pub returns-in_default-take_u64 : goal.returns-in_default-take_u64
returns-in_default-take_u64 c =
    index_none3 c.args.bytes.now c.in-Some.behind.now c.in-Some.table c.in-Some.ensures.0 c.in-Some.ensures.1 c.in-Some-take_class.more.now c.in-Some-take_class.part c.in-Some-take_class.ensures.0
    c.in-Some-take_class.ensures.1 c.in_default-take_u64.ensures

pub returns-in_default-take_u64-2 : goal.returns-in_default-take_u64-2
returns-in_default-take_u64-2 c =
    index_none4 c.args.bytes.now c.in-Some.behind.now c.in-Some.table c.in-Some.ensures.0 c.in-Some.ensures.1 c.in-Some-take_class.more.now c.in-Some-take_class.part c.in-Some-take_class.ensures.0
    c.in-Some-take_class.ensures.1 c.in-Some-take_u64.others.now c.in-Some-take_u64.root c.in-Some-take_u64.ensures.0 c.in-Some-take_u64.ensures.1 c.in_default-take_u64-2.ensures

pub returns-in_default-whole_field : goal.returns-in_default-whole_field
returns-in_default-whole_field c =
    index_none5 c.args.bytes.now c.in-Some.behind.now c.in-Some.table c.in-Some.ensures.0 c.in-Some.ensures.1 c.in-Some-take_class.more.now c.in-Some-take_class.part c.in-Some-take_class.ensures.0
    c.in-Some-take_class.ensures.1 c.in-Some-take_u64.others.now c.in-Some-take_u64.root c.in-Some-take_u64.ensures.0 c.in-Some-take_u64.ensures.1 c.in-Some-take_u64-2.rest.now c.in-Some-take_u64-2.nulls
    c.in-Some-take_u64-2.ensures.0 c.in-Some-take_u64-2.ensures.1 c.in_default-whole_field.ensures

pub returns : goal.returns
returns c =
    rw c.in_ok-name.ensures
    (index_read c.args.bytes.now c.in-Some.behind.now c.in-Some.table c.in-Some.ensures.0 c.in-Some.ensures.1 c.in-Some-take_class.more.now c.in-Some-take_class.part c.in-Some-take_class.ensures.0
    c.in-Some-take_class.ensures.1 c.in-Some-take_u64.others.now c.in-Some-take_u64.root c.in-Some-take_u64.ensures.0 c.in-Some-take_u64.ensures.1 c.in-Some-take_u64-2.rest.now c.in-Some-take_u64-2.nulls
    c.in-Some-take_u64-2.ensures.0 c.in-Some-take_u64-2.ensures.1 c.in-Some-whole_field.name.now c.in-Some-whole_field.ensures)
