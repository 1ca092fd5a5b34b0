use Rattle.std.proofs.Common.{Some, sym, ◌∙◌, ap}
use Rattle.gx_pages.specs.Tables.{now_at, map_of}
use Rattle.gx_pages.proofs.Maps.{at_zero, at_page}
use Rattle.gx_pages.proofs.Causes.{cause_weaker}
use Rattle.gx_pages.proofs.Taking.{starts_broken, took_grown, took_unchained, keeps_same, one_free, some_free, full_after}
use Rattle.gx_pages.proofs.free_list.take_page.Goals as goal

pub returns-in-Ok-clause-zeros : goal.returns-in-Ok-clause-zeros
returns-in-Ok-clause-zeros c =
    let old = c.args.table.now in
    let header = c.read.new.into in
    let there = at_zero (now_at old) old.count c.requires.some ∙ ap Some (sym c.read.ensures) in
    let took = took_grown (map_of old) (map_of c.grow.new.table) old.count c.grow.new.table.count c.in-Ok.page header c.first_free-first.result there
    c.first_free-first.ensures.first c.first_free-first.ensures.fits c.if-first-eq0.true c.requires.some c.first_free-first.ensures.len
    c.in-Ok.ensures.map c.in-Ok.ensures.page c.in-Ok.ensures.count in
    took.zeros

pub returns-in-Ok-clause-others : goal.returns-in-Ok-clause-others
returns-in-Ok-clause-others c =
    let old = c.args.table.now in
    let header = c.read.new.into in
    let there = at_zero (now_at old) old.count c.requires.some ∙ ap Some (sym c.read.ensures) in
    let took = took_grown (map_of old) (map_of c.grow.new.table) old.count c.grow.new.table.count c.in-Ok.page header c.first_free-first.result there
    c.first_free-first.ensures.first c.first_free-first.ensures.fits c.if-first-eq0.true c.requires.some c.first_free-first.ensures.len
    c.in-Ok.ensures.map c.in-Ok.ensures.page c.in-Ok.ensures.count in
    took.others

pub returns-in-Ok-clause-taken : goal.returns-in-Ok-clause-taken
returns-in-Ok-clause-taken c =
    let old = c.args.table.now in
    let header = c.read.new.into in
    let there = at_zero (now_at old) old.count c.requires.some ∙ ap Some (sym c.read.ensures) in
    let took = took_grown (map_of old) (map_of c.grow.new.table) old.count c.grow.new.table.count c.in-Ok.page header c.first_free-first.result there
    c.first_free-first.ensures.first c.first_free-first.ensures.fits c.if-first-eq0.true c.requires.some c.first_free-first.ensures.len
    c.in-Ok.ensures.map c.in-Ok.ensures.page c.in-Ok.ensures.count in
    took.taken

pub returns-in-Ok-clause-header : goal.returns-in-Ok-clause-header
returns-in-Ok-clause-header c =
    let old = c.args.table.now in
    let header = c.read.new.into in
    let there = at_zero (now_at old) old.count c.requires.some ∙ ap Some (sym c.read.ensures) in
    let took = took_grown (map_of old) (map_of c.grow.new.table) old.count c.grow.new.table.count c.in-Ok.page header c.first_free-first.result there
    c.first_free-first.ensures.first c.first_free-first.ensures.fits c.if-first-eq0.true c.requires.some c.first_free-first.ensures.len
    c.in-Ok.ensures.map c.in-Ok.ensures.page c.in-Ok.ensures.count in
    took.header

pub returns-in-Err-clause-header : goal.returns-in-Err-clause-header
returns-in-Err-clause-header c = keeps_same (map_of c.args.table.now) (map_of c.grow.new.table) c.in-Err.ensures.same.0

pub returns-in-Err-clause-cause : goal.returns-in-Err-clause-cause
returns-in-Err-clause-cause c =
    let old = c.args.table.now in
    let there = at_zero (now_at old) old.count c.requires.some ∙ ap Some (sym c.read.ensures) in
    let none = one_free (map_of old) old.count c.read.new.into c.first_free-first.result there c.first_free-first.ensures.first c.first_free-first.ensures.fits c.if-first-eq0.true in
    cause_weaker c.in-Err.error 0 0 _ _ _ _ _ _ (λ at expected found apart no. absurd no) (λ pages full. full_after (map_of old) (map_of c.grow.new.table) old.count c.grow.new.table.count pages c.in-Err.ensures.same full.0 full.1 none) (λ m. m) c.in-Err.ensures.cause

pub returns-in-Ok-unchain-clause-zeros : goal.returns-in-Ok-unchain-clause-zeros
returns-in-Ok-unchain-clause-zeros c =
    let old = c.args.table.now in
    let header = c.read.new.into in
    let there = at_zero (now_at old) old.count c.requires.some ∙ ap Some (sym c.read.ensures) in
    let map = c.in-Ok-unchain.ensures.map in
    let written = at_page (now_at old) old.count c.first_free-first.result c.in-Ok-unchain.ensures.below ∙ ap Some map.2 in
    let took = took_unchained (map_of old) (map_of c.unchain.new.table) old.count c.unchain.new.table.count c.in-Ok-unchain.page header c.first_free-first.result map.0 there
    c.first_free-first.ensures.first c.first_free-first.ensures.fits c.if-first-eq0.false c.first_free-first.ensures.len
    map.1 written map.3 c.in-Ok-unchain.ensures.page c.in-Ok-unchain.ensures.count in
    took.zeros

pub returns-in-Ok-unchain-clause-others : goal.returns-in-Ok-unchain-clause-others
returns-in-Ok-unchain-clause-others c =
    let old = c.args.table.now in
    let header = c.read.new.into in
    let there = at_zero (now_at old) old.count c.requires.some ∙ ap Some (sym c.read.ensures) in
    let map = c.in-Ok-unchain.ensures.map in
    let written = at_page (now_at old) old.count c.first_free-first.result c.in-Ok-unchain.ensures.below ∙ ap Some map.2 in
    let took = took_unchained (map_of old) (map_of c.unchain.new.table) old.count c.unchain.new.table.count c.in-Ok-unchain.page header c.first_free-first.result map.0 there
    c.first_free-first.ensures.first c.first_free-first.ensures.fits c.if-first-eq0.false c.first_free-first.ensures.len
    map.1 written map.3 c.in-Ok-unchain.ensures.page c.in-Ok-unchain.ensures.count in
    took.others

pub returns-in-Ok-unchain-clause-taken : goal.returns-in-Ok-unchain-clause-taken
returns-in-Ok-unchain-clause-taken c =
    let old = c.args.table.now in
    let header = c.read.new.into in
    let there = at_zero (now_at old) old.count c.requires.some ∙ ap Some (sym c.read.ensures) in
    let map = c.in-Ok-unchain.ensures.map in
    let written = at_page (now_at old) old.count c.first_free-first.result c.in-Ok-unchain.ensures.below ∙ ap Some map.2 in
    let took = took_unchained (map_of old) (map_of c.unchain.new.table) old.count c.unchain.new.table.count c.in-Ok-unchain.page header c.first_free-first.result map.0 there
    c.first_free-first.ensures.first c.first_free-first.ensures.fits c.if-first-eq0.false c.first_free-first.ensures.len
    map.1 written map.3 c.in-Ok-unchain.ensures.page c.in-Ok-unchain.ensures.count in
    took.taken

pub returns-in-Ok-unchain-clause-header : goal.returns-in-Ok-unchain-clause-header
returns-in-Ok-unchain-clause-header c =
    let old = c.args.table.now in
    let header = c.read.new.into in
    let there = at_zero (now_at old) old.count c.requires.some ∙ ap Some (sym c.read.ensures) in
    let map = c.in-Ok-unchain.ensures.map in
    let written = at_page (now_at old) old.count c.first_free-first.result c.in-Ok-unchain.ensures.below ∙ ap Some map.2 in
    let took = took_unchained (map_of old) (map_of c.unchain.new.table) old.count c.unchain.new.table.count c.in-Ok-unchain.page header c.first_free-first.result map.0 there
    c.first_free-first.ensures.first c.first_free-first.ensures.fits c.if-first-eq0.false c.first_free-first.ensures.len
    map.1 written map.3 c.in-Ok-unchain.ensures.page c.in-Ok-unchain.ensures.count in
    took.header

pub returns-in-Ok-unchain-clause-room : goal.returns-in-Ok-unchain-clause-room
returns-in-Ok-unchain-clause-room c = λ none.
    let old = c.args.table.now in
    let there = at_zero (now_at old) old.count c.requires.some ∙ ap Some (sym c.read.ensures) in
    absurd (some_free (map_of old) old.count c.read.new.into c.first_free-first.result there c.first_free-first.ensures.first c.first_free-first.ensures.fits c.if-first-eq0.false none)

pub returns-in-Err-unchain-clause-header : goal.returns-in-Err-unchain-clause-header
returns-in-Err-unchain-clause-header c = keeps_same (map_of c.args.table.now) (map_of c.unchain.new.table) c.in-Err-unchain.ensures.same

pub returns-in-Err-unchain-clause-cause : goal.returns-in-Err-unchain-clause-cause
returns-in-Err-unchain-clause-cause c =
    let old = c.args.table.now in
    let there = at_zero (now_at old) old.count c.requires.some ∙ ap Some (sym c.read.ensures) in
    cause_weaker c.in-Err-unchain.error 0 0 _ _ _ _ _ _
    (λ at expected found apart no_page. starts_broken (now_at old) old.count c.read.new.into c.first_free-first.result there c.first_free-first.ensures.first c.first_free-first.ensures.fits c.if-first-eq0.false no_page)
    (λ pages no. absurd no) (λ m. m) c.in-Err-unchain.ensures.cause
