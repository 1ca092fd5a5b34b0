use Rattle.std.proofs.Common.{ℕ, List, length, sym, ◌∙◌, ap, subst, arith}
use Rattle.gx_bytes.specs.Fields.{le64, paste}
use Rattle.gx_words.specs.PageMap.{PageMap}
use Rattle.gx_pages.specs.Contents.{IsCounted}
use Rattle.gx_pages.specs.Frees.{HasCount, HasFirst, KeepsHeader, Given, free_page_of}
use Rattle.gx_pages.specs.Tables.{now_at, map_of}
use Rattle.gx_pages.proofs.Headers.{first_stays}
use Rattle.gx_pages.proofs.Maps.{map_both, counted_after, counted_same, map_same, at_zero}
use Rattle.gx_pages.proofs.Taking.{at_others, keeps_header, keeps_same, chained_given}
use Rattle.gx_pages.proofs.free_list.give_page.Goals as goal

pub returns-in-Err-clause-header : goal.returns-in-Err-clause-header
returns-in-Err-clause-header c = keeps_same (map_of c.args.table.now) (map_of c.write_both.new.table)
    (map_same (now_at c.args.table.now) (now_at c.write_both.new.table) c.args.table.now.count c.write_both.new.table.count c.in-Err.ensures.same c.in-Err.ensures.count)

pub returns-in-Err-clause-counted : goal.returns-in-Err-clause-counted
returns-in-Err-clause-counted c =
    counted_same (now_at c.args.table.now) (now_at c.write_both.new.table) c.args.table.now.count c.write_both.new.table.count c.in-Err.ensures.same c.in-Err.ensures.count c.requires.counted

pub returns-clause-others : goal.returns-clause-others
returns-clause-others c = λ n nonzero other.
    let old = now_at c.args.table.now in
    let header = paste (old 0) 16 (le64 c.args.page) in
    let free = free_page_of c.first_free.result in
    let field = c.set_first_free.ensures.field ∙ ap (λ (h : List ℕ). paste h 16 (le64 c.args.page)) c.read.ensures in
    let map = map_both old (now_at c.write_both.new.table) c.args.table.now.count c.write_both.new.table.count c.args.page c.set_first_free.new.header header c.free_page-free.result free
    c.in-Ok.ensures.count c.in-Ok.ensures.now field c.free_page-free.ensures c.requires.counted.some c.requires.below in
    (λ i. map i n) ∙ at_others (map_of c.args.table.now) c.args.page header free n nonzero other

pub returns-clause-given : goal.returns-clause-given
returns-clause-given c = λ pages list apart.
    let old = now_at c.args.table.now in
    let count = c.args.table.now.count in
    let header = paste (old 0) 16 (le64 c.args.page) in
    let free = free_page_of c.first_free.result in
    let field = c.set_first_free.ensures.field ∙ ap (λ (h : List ℕ). paste h 16 (le64 c.args.page)) c.read.ensures in
    let map = map_both old (now_at c.write_both.new.table) count c.write_both.new.table.count c.args.page c.set_first_free.new.header header c.free_page-free.result free
    c.in-Ok.ensures.count c.in-Ok.ensures.now field c.free_page-free.ensures c.requires.counted.some c.requires.below in
    let has = subst (λ (h : List ℕ). HasFirst h c.first_free.result) c.read.ensures c.first_free.ensures.first in
    let size = ap (λ (h : List ℕ). length h) (sym c.read.ensures) ∙ c.first_free.ensures.len in
    subst (λ (m : PageMap). Given (map_of c.args.table.now) m count c.args.page pages) (sym map)
    (chained_given (map_of c.args.table.now) count (old 0) c.first_free.result (at_zero old count c.requires.counted.some) has c.first_free.ensures.fits c.args.page c.requires.nonzero c.requires.below
    (omega arith) size pages list apart)

pub returns-clause-header : goal.returns-clause-header
returns-clause-header c =
    let old = now_at c.args.table.now in
    let count = c.args.table.now.count in
    let header = paste (old 0) 16 (le64 c.args.page) in
    let free = free_page_of c.first_free.result in
    let field = c.set_first_free.ensures.field ∙ ap (λ (h : List ℕ). paste h 16 (le64 c.args.page)) c.read.ensures in
    let map = map_both old (now_at c.write_both.new.table) count c.write_both.new.table.count c.args.page c.set_first_free.new.header header c.free_page-free.result free
    c.in-Ok.ensures.count c.in-Ok.ensures.now field c.free_page-free.ensures c.requires.counted.some c.requires.below in
    let size = ap (λ (h : List ℕ). length h) (sym c.read.ensures) ∙ c.first_free.ensures.len in
    subst (λ (m : PageMap). KeepsHeader (map_of c.args.table.now) m) (sym map)
    (keeps_header (map_of c.args.table.now) c.args.page (old 0) header free (at_zero old count c.requires.counted.some) c.requires.nonzero (first_stays (old 0) c.args.page size))

pub returns-clause-counted : goal.returns-clause-counted
returns-clause-counted c =
    let old = now_at c.args.table.now in
    let count = c.args.table.now.count in
    let header = subst (λ (h : List ℕ). HasCount h count) (sym c.read.ensures) c.requires.counted.header in
    let has = c.set_first_free.ensures.counted count header in
    subst (λ (n : ℕ). IsCounted (now_at c.write_both.new.table) n) (sym c.in-Ok.ensures.count)
    (counted_after old (now_at c.write_both.new.table) count c.args.page c.set_first_free.new.header c.free_page-free.result c.in-Ok.ensures.now c.requires.nonzero
    has c.requires.counted.some c.requires.counted.bounded)
