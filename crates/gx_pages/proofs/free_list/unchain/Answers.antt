use Rattle.std.proofs.Common.{◌≡◌, ℕ, List, replicate, sym, ◌∙◌, subst, arith}
use Rattle.gx_bytes.specs.Fields.{le64, paste}
use Rattle.gx_pages.specs.Contents.{IsCounted}
use Rattle.gx_pages.specs.Frees.{HasCount, free_page_of}
use Rattle.gx_pages.specs.Tables.{now_at}
use Rattle.gx_pages.proofs.Maps.{map_both, counted_after, counted_same}
use Rattle.gx_pages.proofs.free_list.unchain.Goals as goal

pub returns-in-Err-clause-counted : goal.returns-in-Err-clause-counted
returns-in-Err-clause-counted c =
    counted_same (now_at c.args.table.now) (now_at c.write_both.new.table) c.args.table.now.count c.write_both.new.table.count c.in-Err.ensures.same c.in-Err.ensures.count c.requires.counted

pub returns-clause-map : goal.returns-clause-map
returns-clause-map c =
    let table = c.args.table.now in
    let next = c.in-Some.next in
    let header = paste c.args.header.now 16 (le64 next) in
    let free : now_at table c.args.page ≡ free_page_of next = sym c.read.ensures ∙ c.in-Some.ensures.some in
    let map = map_both (now_at table) (now_at c.write_both.new.table) table.count c.write_both.new.table.count c.args.page c.set_first_free.new.header header c.zero.result (replicate 8192 0)
    c.in-Ok.ensures.count c.in-Ok.ensures.now c.set_first_free.ensures.field c.zero.ensures c.requires.counted.some (omega arith) in
    (next, c.in-Some.ensures.fits, free, map)

pub returns-clause-counted : goal.returns-clause-counted
returns-clause-counted c =
    let table = c.args.table.now in
    let header = subst (λ (h : List ℕ). HasCount h table.count) (sym c.requires.header) c.requires.counted.header in
    let has = c.set_first_free.ensures.counted table.count header in
    subst (λ (count : ℕ). IsCounted (now_at c.write_both.new.table) count) (sym c.in-Ok.ensures.count)
    (counted_after (now_at table) (now_at c.write_both.new.table) table.count c.args.page c.set_first_free.new.header c.zero.result c.in-Ok.ensures.now c.requires.nonzero
    has c.requires.counted.some c.requires.counted.bounded)
