use Rattle.std.proofs.Common.{List, [], ◌++◌, codes, sym, ◌∙◌, subst, arith}
use Rattle.std.proofs.lemmas.Result.{err_from_is_err_and}
use Rattle.gx_pages.proofs.Footprints.{cause_weaker}
use Rattle.gx_catalog.specs.declared.info.IndexInfo.{IndexInfo}
use Rattle.gx_catalog.specs.Validity.{HasNoIndex}
use Rattle.gx_parse.specs.Said.{DropTable}
use Rattle.gx_model.specs.Database.{Table}
use Rattle.gx_model.specs.Replies.{line}
use Rattle.gx_change.proofs.Effects.{drop_cost, drop_done, missing, next_of}
use Rattle.gx_change.proofs.Frame.{catalog_there, has_table, heap_gone, table_heap}
use Rattle.gx_change.proofs.Refused.{all_done, all_refused}
use Rattle.gx_change.proofs.table.drop_table.Goals as goal

pub returns-in_default-clause-done : goal.returns-in_default-clause-done
returns-in_default-clause-done g c =
    all_refused g.P.Pages c.args.pages.now c.load.new.pages (DropTable c.args.name.now) 2 c.refused.result c.in_ok-catalog.ensures.map c.in_ok-catalog.ensures.count
    (λ tells db s. missing g.P.Pages c.tables_are_found.ensures.none c.load.new.pages db c.in_ok-catalog.catalog c.args.name.now (λ (t : Table). []) (c.in_ok-catalog.ensures.opened tells db s) (sym c.in_default.ensures))
    c.refused.ensures.reply

pub returns-in_err-drop_all-clause-cause : goal.returns-in_err-drop_all-clause-cause
returns-in_err-drop_all-clause-cause g c =
    let p = err_from_is_err_and c.from_residual-in_err-drop_all.result c.from_residual-in_err-drop_all.ensures.1 in
    rw (p.1, p.2)
    (cause_weaker c.in_err-drop_all.field-0.0 (g.P.Pages.faults c.args.pages.now) (g.P.Pages.faults c.load.new.pages) (g.P.Pages.faults c.drop_all.new.pages) (g.P.Pages.faults c.drop_all.new.pages)
    _ _ _ _ _ _ (let q = c.in_ok-catalog.ensures.quiet.faults in omega (arith, q)) (omega arith)
    (λ at expected found broken tells db s.
    let t = has_table g.P.Pages c.tables_are_found.ensures.some c.load.new.pages db c.in_ok-catalog.catalog c.args.name.now c.in-Some.info.now (c.in_ok-catalog.ensures.opened tells db s) (sym c.in-Some.ensures) in
    broken tells t.place.stored.rows t.place.stored.feet t.holds.free (table_heap g.P.Pages c.load.new.pages db c.in_ok-catalog.catalog c.args.name.now c.in-Some.info.now t))
    (λ n no. absurd no) (λ memory. tt) c.in_err-drop_all.ensures.cause)

pub returns-in_err-drop_all-clause-most : goal.returns-in_err-drop_all-clause-most
returns-in_err-drop_all-clause-most g c = λ tells db s n cost.
    let t = has_table g.P.Pages c.tables_are_found.ensures.some c.load.new.pages db c.in_ok-catalog.catalog c.args.name.now c.in-Some.info.now (c.in_ok-catalog.ensures.opened tells db s) (sym c.in-Some.ensures) in
    let all = drop_cost db c.args.name.now t.table n t.named cost in
    let number = next_of g.P.Pages c.load.new.pages db c.in_ok-catalog.catalog c.args.name.now c.in-Some.info.now t in
    let most = c.drop_all.ensures.most in
    omega (arith, all, number, most)

pub drop_table-requires-clause-bare : goal.drop_table-requires-clause-bare
drop_table-requires-clause-bare g c = subst (λ (is : List IndexInfo). HasNoIndex c.in-Some.info.now.number is) (sym c.in_ok-catalog.ensures.bare) tt

pub returns-in_err-drop_table-clause-cause : goal.returns-in_err-drop_table-clause-cause
returns-in_err-drop_table-clause-cause g c =
    let p = err_from_is_err_and c.from_residual-in_err-drop_table.result c.from_residual-in_err-drop_table.ensures.1 in
    rw (p.1, p.2)
    (cause_weaker c.in_err-drop_table.field-0.0 (g.P.Pages.faults c.args.pages.now) (g.P.Pages.faults c.drop_all.new.pages) (g.P.Pages.faults c.drop_table.new.pages) (g.P.Pages.faults c.drop_table.new.pages)
    _ _ _ _ _ _ (let q = c.in_ok-catalog.ensures.quiet.faults in let r = c.in_ok-drop_all.ensures.quiet.faults in omega (arith, q, r)) (omega arith)
    (λ at expected found broken tells db s.
    let t = has_table g.P.Pages c.tables_are_found.ensures.some c.load.new.pages db c.in_ok-catalog.catalog c.args.name.now c.in-Some.info.now (c.in_ok-catalog.ensures.opened tells db s) (sym c.in-Some.ensures) in
    let k = c.in_ok-drop_all.ensures.dropped tells t.place.stored.rows t.place.stored.feet t.holds.free (table_heap g.P.Pages c.load.new.pages db c.in_ok-catalog.catalog c.args.name.now c.in-Some.info.now t) in
    let h = heap_gone g.P.Pages c.load.new.pages c.drop_all.new.pages c.in_ok-catalog.catalog t.place.stored_before t.place.stored t.place.stored_behind k.0 t.holds
    (record { counted = g.met.P.Pages.counted c.drop_all.new.pages tells; bounded = g.met.P.Pages.bounded c.drop_all.new.pages; ends = g.met.P.Pages.ends c.drop_all.new.pages tells }) k.1 in
    broken tells h.feet h.free (catalog_there g.P.Pages c.drop_all.new.pages c.in_ok-catalog.catalog (t.place.stored_before ++ t.place.stored_behind) h))
    (λ n no. absurd no) (λ memory. tt) c.in_err-drop_table.ensures.cause)

pub returns-in_err-drop_table-clause-most : goal.returns-in_err-drop_table-clause-most
returns-in_err-drop_table-clause-most g c = λ tells db s n cost.
    let t = has_table g.P.Pages c.tables_are_found.ensures.some c.load.new.pages db c.in_ok-catalog.catalog c.args.name.now c.in-Some.info.now (c.in_ok-catalog.ensures.opened tells db s) (sym c.in-Some.ensures) in
    let all = drop_cost db c.args.name.now t.table n t.named cost in
    let number = next_of g.P.Pages c.load.new.pages db c.in_ok-catalog.catalog c.args.name.now c.in-Some.info.now t in
    let most = c.drop_all.ensures.most in
    omega (arith, all, number, most)

pub returns-clause-done : goal.returns-clause-done
returns-clause-done g c =
    all_done g.P.Pages c.args.pages.now c.drop_table.new.pages (DropTable c.args.name.now) (line (codes "DROP TABLE")) c.told.result
    (λ reply is tells db s.
    let t = has_table g.P.Pages c.tables_are_found.ensures.some c.load.new.pages db c.in_ok-catalog.catalog c.args.name.now c.in-Some.info.now (c.in_ok-catalog.ensures.opened tells db s) (sym c.in-Some.ensures) in
    let k = c.in_ok-drop_all.ensures.dropped tells t.place.stored.rows t.place.stored.feet t.holds.free (table_heap g.P.Pages c.load.new.pages db c.in_ok-catalog.catalog c.args.name.now c.in-Some.info.now t) in
    drop_done g.P.Pages c.stays_valid.ensures.step c.args.pages.now c.load.new.pages c.drop_all.new.pages c.drop_table.new.pages db c.in_ok-catalog.catalog c.drop_table.new.self c.args.name.now c.in-Some.info.now t
    (c.found_among.ensures.named c.args.name.now c.in_ok-catalog.catalog.tables c.in-Some.info.now (sym c.in-Some.ensures)).1
    (record { counted = g.met.P.Pages.counted c.drop_all.new.pages tells; bounded = g.met.P.Pages.bounded c.drop_all.new.pages; ends = g.met.P.Pages.ends c.drop_all.new.pages tells }) (record { counted = g.met.P.Pages.counted c.drop_table.new.pages tells; bounded = g.met.P.Pages.bounded c.drop_table.new.pages; ends = g.met.P.Pages.ends c.drop_table.new.pages tells })
    k.0 k.1
    (c.in_ok-drop_table.ensures.dropped tells) c.in_ok-drop_table.ensures.tables c.in_ok-drop_table.ensures.indexes
    (c.in_ok-drop_table.ensures.count ∙ c.in_ok-drop_all.ensures.count ∙ c.in_ok-catalog.ensures.count) reply is)
    c.told.ensures.reply

pub returns-clause-most : goal.returns-clause-most
returns-clause-most g c = λ tells db s n cost.
    let t = has_table g.P.Pages c.tables_are_found.ensures.some c.load.new.pages db c.in_ok-catalog.catalog c.args.name.now c.in-Some.info.now (c.in_ok-catalog.ensures.opened tells db s) (sym c.in-Some.ensures) in
    let all = drop_cost db c.args.name.now t.table n t.named cost in
    let number = next_of g.P.Pages c.load.new.pages db c.in_ok-catalog.catalog c.args.name.now c.in-Some.info.now t in
    let most = c.drop_all.ensures.most in
    omega (arith, all, number, most)
