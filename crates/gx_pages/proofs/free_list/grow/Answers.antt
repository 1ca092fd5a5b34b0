use Rattle.std.proofs.Common.{◌≢◌, ℕ, ◌+◌, List, replicate, ◌∙◌, ap, arith}
use Rattle.gx_bytes.specs.Fields.{le64, paste}
use Rattle.gx_pages.specs.Contents.{Contents, with_bytes, below}
use Rattle.gx_pages.specs.Tables.{now_at}
use Rattle.gx_pages.proofs.Maps.{written_more, counted_after, counted_same}
use Rattle.gx_pages.proofs.free_list.grow.Goals as goal

pub returns-in-Err-clause-counted : goal.returns-in-Err-clause-counted
returns-in-Err-clause-counted c =
    counted_same (now_at c.args.table.now) (now_at c.write_both.new.table) c.args.table.now.count c.write_both.new.table.count c.in-Err.ensures.same c.in-Err.ensures.count c.requires.counted

pub returns-clause-map : goal.returns-clause-map
returns-clause-map c =
    let old = now_at c.args.table.now in
    let count = c.args.table.now.count in
    ap (λ (contents : Contents). below (count + 1) contents) c.in-Ok.ensures.now
    ∙ ap (λ (h : List ℕ). below (count + 1) (with_bytes (with_bytes old 0 h) count c.zero.result)) c.set_count.ensures.field
    ∙ ap (λ (b : List ℕ). below (count + 1) (with_bytes (with_bytes old 0 (paste c.args.header.now 8 (le64 (count + 1)))) count b)) c.zero.ensures
    ∙ written_more old count (paste c.args.header.now 8 (le64 (count + 1))) (replicate 8192 0) c.requires.counted.some

pub returns-clause-counted : goal.returns-clause-counted
returns-clause-counted c =
    let count = c.args.table.now.count in
    let nonzero : count ≢ 0 = omega (arith, c.requires.counted.some) in
    counted_after (now_at c.args.table.now) (now_at c.write_both.new.table) (count + 1) count c.set_count.new.header c.zero.result c.in-Ok.ensures.now nonzero
    c.set_count.ensures.counted (omega arith) (omega (arith, c.if-page-ge-MOST.false))
