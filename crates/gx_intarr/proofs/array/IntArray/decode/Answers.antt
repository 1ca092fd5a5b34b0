-- Where no array has the bytes.
use Rattle.std.proofs.Common.{◌≡◌, ◌<◌, ◌^◌, length, ◌∙◌, arith, rules}
use Rattle.gx_intarr.proofs.EncodingLemmas.{no_count, no_numbers, other_count}
use Rattle.gx_intarr.proofs.array.IntArray.decode.Goals as goal

pub returns-in_default : goal.returns-in_default
returns-in_default c =
    let small : length c.args.bytes.now < 2 ^ 64 = omega arith in
    no_count c.args.bytes.now small c.in_default.ensures.none

pub returns-in_default-2 : goal.returns-in_default-2
returns-in_default-2 c =
    no_numbers c.args.bytes.now c.split_at.result.1.now c.in-Some.count c.in-Some.length c.in-Some.ensures.found c.split_at.ensures.back (rw c.in_default-2.is at c.in_ok-items.ensures)

pub returns-then-len-count : goal.returns-then-len-count
returns-then-len-count c =
    let told = rw c.in-Some-2.is at c.in_ok-items.ensures in
    let size : c.len.result ≡ length c.in-Some-2.items.items = search rules in
    other_count c.args.bytes.now c.split_at.result.1.now c.in-Some.count c.in-Some.length c.in-Some-2.items.items c.in-Some.ensures.found c.split_at.ensures.back told.1 (λ same. c.if-len-count.true (size ∙ same))
