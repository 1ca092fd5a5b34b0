use Rattle.std.proofs.Common.{[], ◌∷◌, ◌++◌, codes, sym, ◌∙◌, arith}
use Rattle.std.proofs.lemmas.Result.{err_from_is_err_and}
use Rattle.gx_pages.proofs.Footprints.{cause_weaker}
use Rattle.gx_catalog.specs.Validity.{IsTable}
use Rattle.gx_parse.specs.Said.{Vacuum}
use Rattle.gx_model.specs.Database.{Table}
use Rattle.gx_model.specs.Replies.{line}
use Rattle.gx_database.specs.Heaps.{Stored}
use Rattle.gx_change.proofs.Effects.{missing, next_of, vacuum_cost, vacuum_done}
use Rattle.gx_change.proofs.Frame.{catalog_there, has_table, heap_changed, table_heap}
use Rattle.gx_change.proofs.Names.{all_among}
use Rattle.gx_change.proofs.Refused.{all_done, all_refused}
use Rattle.gx_change.proofs.vacuuming.vacuum.Goals as goal

pub returns-in_default-clause-done : goal.returns-in_default-clause-done
returns-in_default-clause-done g c =
    all_refused g.P.Pages c.args.pages.now c.load.new.pages (Vacuum c.args.table.now) 2 c.refused.result c.in_ok-catalog.ensures.map c.in_ok-catalog.ensures.count
    (λ tells db s. missing g.P.Pages c.tables_are_found.ensures.none c.load.new.pages db c.in_ok-catalog.catalog c.args.table.now (λ (t : Table). []) (c.in_ok-catalog.ensures.opened tells db s) (sym c.in_default.ensures))
    c.refused.ensures.reply

pub returns-in_err-vacuum-clause-cause : goal.returns-in_err-vacuum-clause-cause
returns-in_err-vacuum-clause-cause g c =
    let p = err_from_is_err_and c.from_residual-in_err-vacuum.result c.from_residual-in_err-vacuum.ensures.1 in
    rw (p.1, p.2)
    (cause_weaker c.in_err-vacuum.field-0.0 (g.P.Pages.faults c.args.pages.now) (g.P.Pages.faults c.load.new.pages) (g.P.Pages.faults c.vacuum.new.pages) (g.P.Pages.faults c.vacuum.new.pages)
    _ _ _ _ _ _ (let q = c.in_ok-catalog.ensures.quiet.faults in omega (arith, q)) (omega arith)
    (λ at expected found broken tells db s.
    let t = has_table g.P.Pages c.tables_are_found.ensures.some c.load.new.pages db c.in_ok-catalog.catalog c.args.table.now c.in-Some.info.now (c.in_ok-catalog.ensures.opened tells db s) (sym c.in-Some.ensures) in
    broken tells t.place.stored.rows t.place.stored.feet t.holds.free (table_heap g.P.Pages c.load.new.pages db c.in_ok-catalog.catalog c.args.table.now c.in-Some.info.now t))
    (λ n no. absurd no) (λ memory. tt) c.in_err-vacuum.ensures.cause)

pub returns-in_err-vacuum-clause-most : goal.returns-in_err-vacuum-clause-most
returns-in_err-vacuum-clause-most g c = λ tells db s n cost.
    let t = has_table g.P.Pages c.tables_are_found.ensures.some c.load.new.pages db c.in_ok-catalog.catalog c.args.table.now c.in-Some.info.now (c.in_ok-catalog.ensures.opened tells db s) (sym c.in-Some.ensures) in
    let all = vacuum_cost db c.args.table.now t.table n t.named cost in
    let number = next_of g.P.Pages c.load.new.pages db c.in_ok-catalog.catalog c.args.table.now c.in-Some.info.now t in
    let most = c.vacuum.ensures.most in
    omega (arith, all, number, most)

pub set_heap-requires-clause-heap : goal.set_heap-requires-clause-heap
set_heap-requires-clause-heap g c =
    let among = c.found_among.ensures.named c.args.table.now c.in_ok-catalog.catalog.tables c.in-Some.info.now (sym c.in-Some.ensures) in
    let is : IsTable c.in-Some.info.now = all_among IsTable c.in_ok-catalog.catalog.tables c.in-Some.info.now c.in_ok-catalog.ensures.valid.each_table among.0 in
    let some = is.heap.some in
    let most = is.heap.most in
    let next = c.in_ok-vacuum.ensures.next in
    record { some = omega (arith, some, next); most = omega (arith, most, next) }

pub returns-in_err-set_heap-clause-cause : goal.returns-in_err-set_heap-clause-cause
returns-in_err-set_heap-clause-cause g c =
    let p = err_from_is_err_and c.from_residual-in_err-set_heap.result c.from_residual-in_err-set_heap.ensures.1 in
    rw (p.1, p.2)
    (cause_weaker c.in_err-set_heap.field-0.0 (g.P.Pages.faults c.args.pages.now) (g.P.Pages.faults c.vacuum.new.pages) (g.P.Pages.faults c.set_heap.new.pages) (g.P.Pages.faults c.set_heap.new.pages)
    _ _ _ _ _ _ (let q = c.in_ok-catalog.ensures.quiet.faults in let r = c.in_ok-vacuum.ensures.quiet.faults in omega (arith, q, r)) (omega arith)
    (λ at expected found broken tells db s.
    let t = has_table g.P.Pages c.tables_are_found.ensures.some c.load.new.pages db c.in_ok-catalog.catalog c.args.table.now c.in-Some.info.now (c.in_ok-catalog.ensures.opened tells db s) (sym c.in-Some.ensures) in
    let k = c.in_ok-vacuum.ensures.kept tells t.place.stored.rows t.place.stored.feet t.holds.free (table_heap g.P.Pages c.load.new.pages db c.in_ok-catalog.catalog c.args.table.now c.in-Some.info.now t) in
    let stored : Stored = record { heap = c.vacuum.new.self; rows = t.place.stored.rows; feet = k.0 } in
    let h = heap_changed g.P.Pages c.load.new.pages c.vacuum.new.pages c.in_ok-catalog.catalog t.place.stored_before t.place.stored stored t.place.stored_behind k.1 t.holds
    (record { counted = g.met.P.Pages.counted c.vacuum.new.pages tells; bounded = g.met.P.Pages.bounded c.vacuum.new.pages; ends = g.met.P.Pages.ends c.vacuum.new.pages tells }) k.2 k.4 in
    broken tells h.feet h.free (catalog_there g.P.Pages c.vacuum.new.pages c.in_ok-catalog.catalog (t.place.stored_before ++ stored ∷ t.place.stored_behind) h))
    (λ n no. absurd no) (λ memory. tt) c.in_err-set_heap.ensures.cause)

pub returns-in_err-set_heap-clause-most : goal.returns-in_err-set_heap-clause-most
returns-in_err-set_heap-clause-most g c = λ tells db s n cost.
    let t = has_table g.P.Pages c.tables_are_found.ensures.some c.load.new.pages db c.in_ok-catalog.catalog c.args.table.now c.in-Some.info.now (c.in_ok-catalog.ensures.opened tells db s) (sym c.in-Some.ensures) in
    let all = vacuum_cost db c.args.table.now t.table n t.named cost in
    let number = next_of g.P.Pages c.load.new.pages db c.in_ok-catalog.catalog c.args.table.now c.in-Some.info.now t in
    let most = c.vacuum.ensures.most in
    omega (arith, all, number, most)

pub returns-clause-done : goal.returns-clause-done
returns-clause-done g c =
    all_done g.P.Pages c.args.pages.now c.set_heap.new.pages (Vacuum c.args.table.now) (line (codes "VACUUM")) c.told.result
    (λ reply is tells db s.
    let t = has_table g.P.Pages c.tables_are_found.ensures.some c.load.new.pages db c.in_ok-catalog.catalog c.args.table.now c.in-Some.info.now (c.in_ok-catalog.ensures.opened tells db s) (sym c.in-Some.ensures) in
    vacuum_done g.P.Pages c.args.pages.now c.load.new.pages c.vacuum.new.pages c.set_heap.new.pages db c.in_ok-catalog.catalog c.set_heap.new.self c.args.table.now c.in-Some.info.now t
    (c.found_among.ensures.named c.args.table.now c.in_ok-catalog.catalog.tables c.in-Some.info.now (sym c.in-Some.ensures)).1
    (record { counted = g.met.P.Pages.counted c.vacuum.new.pages tells; bounded = g.met.P.Pages.bounded c.vacuum.new.pages; ends = g.met.P.Pages.ends c.vacuum.new.pages tells }) (record { counted = g.met.P.Pages.counted c.set_heap.new.pages tells; bounded = g.met.P.Pages.bounded c.set_heap.new.pages; ends = g.met.P.Pages.ends c.set_heap.new.pages tells })
    c.vacuum.new.self c.in_ok-vacuum.ensures.next
    (λ rows feet free held. c.in_ok-vacuum.ensures.kept tells rows feet free held)
    (table_heap g.P.Pages c.load.new.pages db c.in_ok-catalog.catalog c.args.table.now c.in-Some.info.now t)
    (c.in_ok-set_heap.ensures.set tells) c.in_ok-set_heap.ensures.tables c.in_ok-set_heap.ensures.indexes
    (c.in_ok-set_heap.ensures.count ∙ c.in_ok-vacuum.ensures.count ∙ c.in_ok-catalog.ensures.count) reply is)
    c.told.ensures.reply

pub returns-clause-most : goal.returns-clause-most
returns-clause-most g c = λ tells db s n cost.
    let t = has_table g.P.Pages c.tables_are_found.ensures.some c.load.new.pages db c.in_ok-catalog.catalog c.args.table.now c.in-Some.info.now (c.in_ok-catalog.ensures.opened tells db s) (sym c.in-Some.ensures) in
    let all = vacuum_cost db c.args.table.now t.table n t.named cost in
    let number = next_of g.P.Pages c.load.new.pages db c.in_ok-catalog.catalog c.args.table.now c.in-Some.info.now t in
    let most = c.vacuum.ensures.most in
    omega (arith, all, number, most)
