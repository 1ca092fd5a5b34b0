use Rattle.std.proofs.Common.{◌≡◌, ◌+◌, ◌≤◌, length, take, drop, sym, ◌∙◌, ap, subst, arith}
use Rattle.std.specs.BTreeMap.{get}
use Rattle.std.specs.Ordering.{nat_cmp}
use Rattle.gx_words.specs.Image.{Image}
use Rattle.gx_bytes.specs.Fields.{le64}
use Rattle.gx_log.specs.Records.{page_in}
use Rattle.gx_log.proofs.Laying.{lay_boxed, lay_none}
use Rattle.gx_log.proofs.replay.lay_entry.Goals as goal

pub returns-then-number-ge-PAGES-clause-laid : goal.returns-then-number-ge-PAGES-clause-laid
returns-then-number-ge-PAGES-clause-laid g c = λ tells within page.
    let log = (g.D.Disk.told c.args.disk.now).log in
    let field : take 8 (drop c.args.at log) ≡ le64 c.number_of-number.result = sym (c.in-Ok.ensures.bytes tells (omega (arith, within))) ∙ c.number_of-number.ensures in
    lay_none (page_in (get nat_cmp c.args.into.now page)) page c.number_of-number.result (take 8 (drop c.args.at log)) (take 8192 (drop (c.args.at + 8) log)) field (omega arith) c.if-number-ge-PAGES.true

pub returns-in-Ok-insert-clause-laid : goal.returns-in-Ok-insert-clause-laid
returns-in-Ok-insert-clause-laid g c = λ tells within page.
    let log = (g.D.Disk.told c.args.disk.now).log in
    let told = c.in-Ok.ensures.reads.told in
    let field : take 8 (drop c.args.at log) ≡ le64 c.number_of-number.result = sym (c.in-Ok.ensures.bytes tells (omega (arith, within))) ∙ c.number_of-number.ensures in
    let inside : c.args.at + 8 + 8192 ≤ length (g.D.Disk.told c.read_part.new.disk).log = subst (λ (image : Image). c.args.at + 8 + 8192 ≤ length image.log) (sym told) (omega (arith, within)) in
    let bytes : c.read_page.new.page.value ≡ take 8192 (drop (c.args.at + 8) log) =
    c.in-Ok-read_page.ensures.bytes tells inside ∙ ap (λ (image : Image). take 8192 (drop (c.args.at + 8) image.log)) told in
    lay_boxed (get nat_cmp c.args.into.now page) (get nat_cmp c.insert.new.self page) page c.number_of-number.result (take 8 (drop c.args.at log)) (take 8192 (drop (c.args.at + 8) log)) c.read_page.new.page
    field c.if-number-ge-PAGES.false bytes (c.in-Ok-insert.ensures.updates.0 page)
