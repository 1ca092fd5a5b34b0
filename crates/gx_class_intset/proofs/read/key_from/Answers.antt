-- What the bytes behind the flag say.
use Rattle.std.proofs.Common.{◌≤◌, ◌∙◌, sym, ap, length, arith, true≢false}
use Rattle.gx_intarr.specs.Arrays.{least}
use Rattle.gx_class_intset.specs.Intervals.{rises}
use Rattle.gx_class_intset.proofs.ReadFacts.{no_list, other_list, key_read}
use Rattle.gx_class_intset.proofs.read.key_from.Goals as goal
use Rattle.gx_class_intset.proofs.read.key_from.Goals.{then-len-from-via-then-len-from, then-len-from-via-else-len-from+then-not-rise}

pub returns-in_default-2 : goal.returns-in_default-2
returns-in_default-2 c = no_list c.args.limit c.args.bytes.now c.in-Some.rest.now c.in-Some.exact c.requires c.in-Some.ensures (rw c.in_default-2.is at c.in_ok-list.ensures)

pub returns-then-len-from : goal.returns-then-len-from
returns-then-len-from c =
    let told = rw c.in-Some-2.is at c.in_ok-list.ensures in
    other_list c.args.limit c.args.bytes.now c.in-Some.rest.now c.in-Some.exact c.in-Some-2.list.items c.in-Some.ensures told.0 told.1
    (λ few up. elim c.then-len-from.branch [
      | then-len-from-via-then-len-from w ↦ omega (arith, few, w.if-len-from.true, c.from.ensures, c.len.ensures)
      | then-len-from-via-else-len-from+then-not-rise w ↦ true≢false (sym (w.if-not-rise.ensures ∙ ap (rises least) w.as_slice.ensures.value ∙ up))
    ])

pub returns : goal.returns
returns c =
    let told = rw c.in-Some-2.is at c.in_ok-list.ensures in
    let few : length c.in-Some-2.list.items ≤ c.args.limit = omega (arith, c.if-len-from.false, c.from.ensures, c.len.ensures) in
    key_read c.args.limit c.args.bytes.now c.in-Some.rest.now c.in-Some.exact c.in-Some-2.list.items c.from_items.result c.from_items.ensures c.in-Some.ensures told.0 told.1 few
    (sym (c.if-not-rise.ensures ∙ ap (rises least) c.as_slice.ensures.value))
