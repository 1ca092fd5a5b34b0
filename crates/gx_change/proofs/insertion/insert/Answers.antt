use Rattle.std.proofs.Common.{◌+◌, ◌≤◌, ℕ, List, [], ◌∷◌, ◌++◌, length, map, codes, Some, refl, sym, ◌∙◌, ap, subst, arith}
use Rattle.std.specs.Option.{option_copied}
use Rattle.std.specs.Fmt.{decimal}
use Rattle.std.specs.List.{AllByRecursion}
use Rattle.std.proofs.lemmas.Result.{err_from_is_err_and}
use Rattle.gx_pages.proofs.Footprints.{cause_weaker}
use Rattle.gx_catalog.specs.Validity as catalogs
use Rattle.gx_catalog.specs.Validity.{IsHeap, IsTable}
use Rattle.gx_value.specs.declared.fields.Column.{Column}
use Rattle.gx_parse.specs.declared.statement.Given.{Given}
use Rattle.gx_parse.specs.Said.{Insert}
use Rattle.gx_parse.specs.Sound.{RowsHaveLiterals}
use Rattle.gx_model.specs.Checks.{Find}
use Rattle.gx_model.specs.Database.{Table}
use Rattle.gx_model.specs.Faults.{insert_checks}
use Rattle.gx_model.specs.Refusals.{Refuses}
use Rattle.gx_model.specs.declared.refusal.Refusal.{Refusal}
use Rattle.gx_model.specs.Replies.{accepted, line}
use Rattle.gx_database.specs.Heaps.{Stored}
use Rattle.gx_change.specs.Appended.{AreNumbered}
use Rattle.gx_change.proofs.Effects.{checks_at, insert_done, insert_grows, insert_lacks_room, missing, next_of, read_at, rows_are_few}
use Rattle.gx_change.proofs.Frame.{catalog_there, has_table, heap_changed, table_heap}
use Rattle.gx_step.proofs.Names.{to_model}
use Rattle.gx_change.proofs.Names.{all_among}
use Rattle.gx_change.proofs.Refused.{all_done, all_refused}
use Rattle.gx_change.proofs.insertion.insert.Goals as goal

pub returns-in_default-clause-done : goal.returns-in_default-clause-done
returns-in_default-clause-done g c =
    all_refused g.P.Pages c.args.pages.now c.load.new.pages (Insert c.args.table.now (option_copied c.args.listed) c.args.rows.now) 2 c.refused.result c.in_ok-catalog.ensures.map c.in_ok-catalog.ensures.count
    (λ tells db s. missing g.P.Pages c.tables_are_found.ensures.none c.load.new.pages db c.in_ok-catalog.catalog c.args.table.now (insert_checks (option_copied c.args.listed) c.args.rows.now) (c.in_ok-catalog.ensures.opened tells db s) (sym c.in_default.ensures))
    c.refused.ensures.reply

pub row_bytes-requires-clause-literals : goal.row_bytes-requires-clause-literals
row_bytes-requires-clause-literals g c = subst (λ (l : List (List Given)). RowsHaveLiterals l) (sym c.as_slice.ensures) c.requires.literals

pub row_bytes-requires-clause-distinct : goal.row_bytes-requires-clause-distinct
row_bytes-requires-clause-distinct g c =
    let among = c.found_among.ensures.named c.args.table.now c.in_ok-catalog.catalog.tables c.in-Some.info.now (sym c.in-Some.ensures) in
    let is : IsTable c.in-Some.info.now = all_among IsTable c.in_ok-catalog.catalog.tables c.in-Some.info.now c.in_ok-catalog.ensures.valid.each_table among.0 in
    to_model (map (λ (k : Column). k.name) c.as_slice-columns.result.now) (subst (λ (l : List Column). catalogs.AreDistinct (map (λ (k : Column). k.name) l)) (sym c.as_slice-columns.ensures) is.columns.distinct)

pub row_bytes-requires-clause-next : goal.row_bytes-requires-clause-next
row_bytes-requires-clause-next g c =
    let among = c.found_among.ensures.named c.args.table.now c.in_ok-catalog.catalog.tables c.in-Some.info.now (sym c.in-Some.ensures) in
    let is : IsTable c.in-Some.info.now = all_among IsTable c.in_ok-catalog.catalog.tables c.in-Some.info.now c.in_ok-catalog.ensures.valid.each_table among.0 in
    let most = is.heap.most in omega (arith, most)

pub append_rows-requires-clause-short : goal.append_rows-requires-clause-short
append_rows-requires-clause-short g c =
    let any : Table = record { name = []; columns = c.as_slice-columns.result.now; next = c.in-Some.info.now.heap.next; rows = [] } in
    subst (λ (l : List (List ℕ)). AllByRecursion (λ (row : List ℕ). length row ≤ 7900) l) (sym c.as_slice-in-Ok.ensures) (c.in-Ok.ensures any refl refl).1.short

pub append_rows-requires-clause-room : goal.append_rows-requires-clause-room
append_rows-requires-clause-room g c =
    let among = c.found_among.ensures.named c.args.table.now c.in_ok-catalog.catalog.tables c.in-Some.info.now (sym c.in-Some.ensures) in
    let is : IsTable c.in-Some.info.now = all_among IsTable c.in_ok-catalog.catalog.tables c.in-Some.info.now c.in_ok-catalog.ensures.valid.each_table among.0 in
    let any : Table = record { name = []; columns = c.as_slice-columns.result.now; next = c.in-Some.info.now.heap.next; rows = [] } in
    let few = rows_are_few any (option_copied c.args.listed) c.as_slice.result.now c.in-Ok.bytes (let most = is.heap.most in omega (arith, most)) (c.in-Ok.ensures any refl refl) in
    let bytes = ap (λ (l : List (List ℕ)). length l) c.as_slice-in-Ok.ensures in
    omega (arith, bytes, few.1)

pub returns-in_err-append_rows-in-Ok-clause-cause : goal.returns-in_err-append_rows-in-Ok-clause-cause
returns-in_err-append_rows-in-Ok-clause-cause g c =
    let p = err_from_is_err_and c.from_residual-in_err-append_rows-in-Ok.result c.from_residual-in_err-append_rows-in-Ok.ensures.1 in
    let bytes = ap (λ (l : List (List ℕ)). length l) c.as_slice-in-Ok.ensures in
    rw (p.1, p.2)
    (cause_weaker c.in_err-append_rows-in-Ok.field-0.0 (g.P.Pages.faults c.args.pages.now) (g.P.Pages.faults c.load.new.pages) (g.P.Pages.faults c.append_rows.new.pages) (g.P.Pages.faults c.append_rows.new.pages)
    _ _ _ _ _ _ (let q = c.in_ok-catalog.ensures.quiet.faults in omega (arith, q)) (omega arith)
    (λ at expected found broken tells db s.
    let t = has_table g.P.Pages c.tables_are_found.ensures.some c.load.new.pages db c.in_ok-catalog.catalog c.args.table.now c.in-Some.info.now (c.in_ok-catalog.ensures.opened tells db s) (sym c.in-Some.ensures) in
    broken tells t.place.stored.rows t.place.stored.feet t.holds.free (table_heap g.P.Pages c.load.new.pages db c.in_ok-catalog.catalog c.args.table.now c.in-Some.info.now t))
    (λ count full tells db s.
    let t = has_table g.P.Pages c.tables_are_found.ensures.some c.load.new.pages db c.in_ok-catalog.catalog c.args.table.now c.in-Some.info.now (c.in_ok-catalog.ensures.opened tells db s) (sym c.in-Some.ensures) in
    let read = read_at t.table c.as_slice-columns.result.now (option_copied c.args.listed) c.args.rows.now c.as_slice.result.now c.in-Ok.bytes (sym (c.as_slice-columns.ensures ∙ t.here.columns)) c.as_slice.ensures
    (c.in-Ok.ensures t.table (sym (c.as_slice-columns.ensures ∙ t.here.columns)) (sym (next_of g.P.Pages c.load.new.pages db c.in_ok-catalog.catalog c.args.table.now c.in-Some.info.now t))) in
    insert_lacks_room g.P.Pages c.load.new.pages db c.in_ok-catalog.catalog c.args.table.now c.in-Some.info.now t (c.found_among.ensures.named c.args.table.now c.in_ok-catalog.catalog.tables c.in-Some.info.now (sym c.in-Some.ensures)).1 (option_copied c.args.listed) c.args.rows.now c.in-Ok.bytes read.0 read.1 (g.P.Pages.count c.args.pages.now)
    (omega (arith, bytes, full.0)) (omega (arith, bytes, full.1, c.in_ok-catalog.ensures.count)))
    (λ memory. tt) c.in_err-append_rows-in-Ok.ensures.cause)

pub returns-in_err-append_rows-in-Ok-clause-most : goal.returns-in_err-append_rows-in-Ok-clause-most
returns-in_err-append_rows-in-Ok-clause-most g c = λ tells db s n cost.
    let among = c.found_among.ensures.named c.args.table.now c.in_ok-catalog.catalog.tables c.in-Some.info.now (sym c.in-Some.ensures) in
    let is : IsTable c.in-Some.info.now = all_among IsTable c.in_ok-catalog.catalog.tables c.in-Some.info.now c.in_ok-catalog.ensures.valid.each_table among.0 in
    let any : Table = record { name = []; columns = c.as_slice-columns.result.now; next = c.in-Some.info.now.heap.next; rows = [] } in
    let few = rows_are_few any (option_copied c.args.listed) c.as_slice.result.now c.in-Ok.bytes (let most = is.heap.most in omega (arith, most)) (c.in-Ok.ensures any refl refl) in
    let given = ap (λ (l : List (List Given)). length l) c.as_slice.ensures in
    let bytes = ap (λ (l : List (List ℕ)). length l) c.as_slice-in-Ok.ensures in
    let most = c.append_rows.ensures.most in
    omega (arith, cost, given, bytes, few.0, most)

pub set_heap-requires-clause-heap : goal.set_heap-requires-clause-heap
set_heap-requires-clause-heap g c =
    let among = c.found_among.ensures.named c.args.table.now c.in_ok-catalog.catalog.tables c.in-Some.info.now (sym c.in-Some.ensures) in
    let is : IsTable c.in-Some.info.now = all_among IsTable c.in_ok-catalog.catalog.tables c.in-Some.info.now c.in_ok-catalog.ensures.valid.each_table among.0 in
    let any : Table = record { name = []; columns = c.as_slice-columns.result.now; next = c.in-Some.info.now.heap.next; rows = [] } in
    let few = rows_are_few any (option_copied c.args.listed) c.as_slice.result.now c.in-Ok.bytes (let most = is.heap.most in omega (arith, most)) (c.in-Ok.ensures any refl refl) in
    let some = is.heap.some in
    let next = c.in_ok-append_rows-in-Ok.ensures.next in
    let bytes = ap (λ (l : List (List ℕ)). length l) c.as_slice-in-Ok.ensures in
    record { some = omega (arith, some, next); most = omega (arith, bytes, few.1, next) }

pub returns-in_err-set_heap-in-Ok-clause-cause : goal.returns-in_err-set_heap-in-Ok-clause-cause
returns-in_err-set_heap-in-Ok-clause-cause g c =
    let p = err_from_is_err_and c.from_residual-in_err-set_heap-in-Ok.result c.from_residual-in_err-set_heap-in-Ok.ensures.1 in
    rw (p.1, p.2)
    (cause_weaker c.in_err-set_heap-in-Ok.field-0.0 (g.P.Pages.faults c.args.pages.now) (g.P.Pages.faults c.append_rows.new.pages) (g.P.Pages.faults c.set_heap.new.pages) (g.P.Pages.faults c.set_heap.new.pages)
    _ _ _ _ _ _ (let q = c.in_ok-catalog.ensures.quiet.faults in let r = c.in_ok-append_rows-in-Ok.ensures.quiet.faults in omega (arith, q, r)) (omega arith)
    (λ at expected found broken tells db s.
    let t = has_table g.P.Pages c.tables_are_found.ensures.some c.load.new.pages db c.in_ok-catalog.catalog c.args.table.now c.in-Some.info.now (c.in_ok-catalog.ensures.opened tells db s) (sym c.in-Some.ensures) in
    let k = c.in_ok-append_rows-in-Ok.ensures.added tells t.place.stored.rows t.place.stored.feet t.holds.free (table_heap g.P.Pages c.load.new.pages db c.in_ok-catalog.catalog c.args.table.now c.in-Some.info.now t) in
    let stored : Stored = record { heap = c.append_rows.new.heap; rows = t.place.stored.rows ++ k.0; feet = k.1 } in
    let h = heap_changed g.P.Pages c.load.new.pages c.append_rows.new.pages c.in_ok-catalog.catalog t.place.stored_before t.place.stored stored t.place.stored_behind k.2 t.holds
    (record { counted = g.met.P.Pages.counted c.append_rows.new.pages tells; bounded = g.met.P.Pages.bounded c.append_rows.new.pages; ends = g.met.P.Pages.ends c.append_rows.new.pages tells }) k.3 k.4 in
    broken tells h.feet h.free (catalog_there g.P.Pages c.append_rows.new.pages c.in_ok-catalog.catalog (t.place.stored_before ++ stored ∷ t.place.stored_behind) h))
    (λ n no. absurd no) (λ memory. tt) c.in_err-set_heap-in-Ok.ensures.cause)

pub returns-in_err-set_heap-in-Ok-clause-most : goal.returns-in_err-set_heap-in-Ok-clause-most
returns-in_err-set_heap-in-Ok-clause-most g c = λ tells db s n cost.
    let among = c.found_among.ensures.named c.args.table.now c.in_ok-catalog.catalog.tables c.in-Some.info.now (sym c.in-Some.ensures) in
    let is : IsTable c.in-Some.info.now = all_among IsTable c.in_ok-catalog.catalog.tables c.in-Some.info.now c.in_ok-catalog.ensures.valid.each_table among.0 in
    let any : Table = record { name = []; columns = c.as_slice-columns.result.now; next = c.in-Some.info.now.heap.next; rows = [] } in
    let few = rows_are_few any (option_copied c.args.listed) c.as_slice.result.now c.in-Ok.bytes (let most = is.heap.most in omega (arith, most)) (c.in-Ok.ensures any refl refl) in
    let given = ap (λ (l : List (List Given)). length l) c.as_slice.ensures in
    let bytes = ap (λ (l : List (List ℕ)). length l) c.as_slice-in-Ok.ensures in
    let most = c.append_rows.ensures.most in
    omega (arith, cost, given, bytes, few.0, most)

pub returns-in-Ok-clause-done : goal.returns-in-Ok-clause-done
returns-in-Ok-clause-done g c =
    all_done g.P.Pages c.args.pages.now c.set_heap.new.pages (Insert c.args.table.now (option_copied c.args.listed) c.args.rows.now) (c.new.result ++ line (codes "INSERT 0 " ++ decimal c.len.result)) c.counted.result
    (λ reply said tells db s.
    let is = said ∙ ap (λ (l : List ℕ). accepted l) (ap (λ (l : List ℕ). l ++ line (codes "INSERT 0 " ++ decimal c.len.result)) c.new.ensures ∙ ap (λ (k : ℕ). line (codes "INSERT 0 " ++ decimal k)) c.len.ensures) in
    let t = has_table g.P.Pages c.tables_are_found.ensures.some c.load.new.pages db c.in_ok-catalog.catalog c.args.table.now c.in-Some.info.now (c.in_ok-catalog.ensures.opened tells db s) (sym c.in-Some.ensures) in
    let read = read_at t.table c.as_slice-columns.result.now (option_copied c.args.listed) c.args.rows.now c.as_slice.result.now c.in-Ok.bytes (sym (c.as_slice-columns.ensures ∙ t.here.columns)) c.as_slice.ensures
    (c.in-Ok.ensures t.table (sym (c.as_slice-columns.ensures ∙ t.here.columns)) (sym (next_of g.P.Pages c.load.new.pages db c.in_ok-catalog.catalog c.args.table.now c.in-Some.info.now t))) in
    let k = c.in_ok-append_rows-in-Ok.ensures.added tells t.place.stored.rows t.place.stored.feet t.holds.free (table_heap g.P.Pages c.load.new.pages db c.in_ok-catalog.catalog c.args.table.now c.in-Some.info.now t) in
    let bytes = c.as_slice-in-Ok.ensures in
    insert_done g.P.Pages c.stays_valid.ensures.step c.args.pages.now c.load.new.pages c.append_rows.new.pages c.set_heap.new.pages db c.in_ok-catalog.catalog c.set_heap.new.self c.args.table.now c.in-Some.info.now t
    (c.found_among.ensures.named c.args.table.now c.in_ok-catalog.catalog.tables c.in-Some.info.now (sym c.in-Some.ensures)).1
    (record { counted = g.met.P.Pages.counted c.append_rows.new.pages tells; bounded = g.met.P.Pages.bounded c.append_rows.new.pages; ends = g.met.P.Pages.ends c.append_rows.new.pages tells }) (record { counted = g.met.P.Pages.counted c.set_heap.new.pages tells; bounded = g.met.P.Pages.bounded c.set_heap.new.pages; ends = g.met.P.Pages.ends c.set_heap.new.pages tells })
    (option_copied c.args.listed) c.args.rows.now c.in-Ok.bytes read.0 read.1
    c.append_rows.new.heap (c.in_ok-append_rows-in-Ok.ensures.next ∙ ap (λ (l : List (List ℕ)). c.in-Some.info.now.heap.next + length l) bytes) k.0 k.1 k.2 k.3 k.4
    (subst (λ (l : List (List ℕ)). AreNumbered c.in-Some.info.now.heap.next l k.0) bytes k.5)
    (c.in_ok-set_heap-in-Ok.ensures.set tells) c.in_ok-set_heap-in-Ok.ensures.tables c.in_ok-set_heap-in-Ok.ensures.indexes
    (let long = ap (λ (l : List (List ℕ)). length l) bytes in let each = c.in_ok-append_rows-in-Ok.ensures.by_each in omega (arith, c.in_ok-set_heap-in-Ok.ensures.count, each, c.in_ok-catalog.ensures.count, long)) reply is)
    c.counted.ensures.reply

pub returns-in-Ok-clause-most : goal.returns-in-Ok-clause-most
returns-in-Ok-clause-most g c = λ tells db s n cost.
    let among = c.found_among.ensures.named c.args.table.now c.in_ok-catalog.catalog.tables c.in-Some.info.now (sym c.in-Some.ensures) in
    let is : IsTable c.in-Some.info.now = all_among IsTable c.in_ok-catalog.catalog.tables c.in-Some.info.now c.in_ok-catalog.ensures.valid.each_table among.0 in
    let any : Table = record { name = []; columns = c.as_slice-columns.result.now; next = c.in-Some.info.now.heap.next; rows = [] } in
    let few = rows_are_few any (option_copied c.args.listed) c.as_slice.result.now c.in-Ok.bytes (let most = is.heap.most in omega (arith, most)) (c.in-Ok.ensures any refl refl) in
    let given = ap (λ (l : List (List Given)). length l) c.as_slice.ensures in
    let bytes = ap (λ (l : List (List ℕ)). length l) c.as_slice-in-Ok.ensures in
    let most = c.append_rows.ensures.most in
    omega (arith, cost, given, bytes, few.0, most)

pub returns-in-Err-Fault-clause-done : goal.returns-in-Err-Fault-clause-done
returns-in-Err-Fault-clause-done g c =
    all_refused g.P.Pages c.args.pages.now c.load.new.pages (Insert c.args.table.now (option_copied c.args.listed) c.args.rows.now) c.in-Err-Fault.number c.refused-in-Err-Fault.result c.in_ok-catalog.ensures.map c.in_ok-catalog.ensures.count
    (λ tells db s.
    let t = has_table g.P.Pages c.tables_are_found.ensures.some c.load.new.pages db c.in_ok-catalog.catalog c.args.table.now c.in-Some.info.now (c.in_ok-catalog.ensures.opened tells db s) (sym c.in-Some.ensures) in
    let refuses = c.in-Err-Fault.ensures t.table (sym (c.as_slice-columns.ensures ∙ t.here.columns)) (sym (next_of g.P.Pages c.load.new.pages db c.in_ok-catalog.catalog c.args.table.now c.in-Some.info.now t)) in
    checks_at db c.args.table.now t.table (insert_checks (option_copied c.args.listed) c.args.rows.now) (Some c.in-Err-Fault.number) t.named
    (subst (λ (l : List (List Given)). Find (insert_checks (option_copied c.args.listed) l t.table) (Some c.in-Err-Fault.number)) c.as_slice.ensures
    (subst (λ (r : Refusal). Refuses (insert_checks (option_copied c.args.listed) c.as_slice.result.now t.table) r) c.in-Err-Fault.field-0-is refuses)))
    (rw c.in-Err-Fault.field-0-is at c.refused-in-Err-Fault.ensures.reply)

pub returns-in_err-append_rows-in-Ok-clause-grows : goal.returns-in_err-append_rows-in-Ok-clause-grows
returns-in_err-append_rows-in-Ok-clause-grows g c = λ tells db s stepped steps.
    let t = has_table g.P.Pages c.tables_are_found.ensures.some c.load.new.pages db c.in_ok-catalog.catalog c.args.table.now c.in-Some.info.now (c.in_ok-catalog.ensures.opened tells db s) (sym c.in-Some.ensures) in
    let read = read_at t.table c.as_slice-columns.result.now (option_copied c.args.listed) c.args.rows.now c.as_slice.result.now c.in-Ok.bytes (sym (c.as_slice-columns.ensures ∙ t.here.columns)) c.as_slice.ensures
    (c.in-Ok.ensures t.table (sym (c.as_slice-columns.ensures ∙ t.here.columns)) (sym (next_of g.P.Pages c.load.new.pages db c.in_ok-catalog.catalog c.args.table.now c.in-Some.info.now t))) in
    let long = ap (λ (l : List (List ℕ)). length l) c.as_slice-in-Ok.ensures in
    insert_grows g.P.Pages c.one_turn.ensures.step c.load.new.pages db c.in_ok-catalog.catalog c.args.table.now c.in-Some.info.now t
    (c.found_among.ensures.named c.args.table.now c.in_ok-catalog.catalog.tables c.in-Some.info.now (sym c.in-Some.ensures)).1 (option_copied c.args.listed) c.args.rows.now c.in-Ok.bytes read.0 read.1 stepped steps
    (g.P.Pages.count c.args.pages.now) (g.P.Pages.count c.append_rows.new.pages) (let each = c.append_rows.ensures.by_each in omega (arith, each, c.in_ok-catalog.ensures.count, long))

pub returns-in_err-set_heap-in-Ok-clause-grows : goal.returns-in_err-set_heap-in-Ok-clause-grows
returns-in_err-set_heap-in-Ok-clause-grows g c = λ tells db s stepped steps.
    let t = has_table g.P.Pages c.tables_are_found.ensures.some c.load.new.pages db c.in_ok-catalog.catalog c.args.table.now c.in-Some.info.now (c.in_ok-catalog.ensures.opened tells db s) (sym c.in-Some.ensures) in
    let read = read_at t.table c.as_slice-columns.result.now (option_copied c.args.listed) c.args.rows.now c.as_slice.result.now c.in-Ok.bytes (sym (c.as_slice-columns.ensures ∙ t.here.columns)) c.as_slice.ensures
    (c.in-Ok.ensures t.table (sym (c.as_slice-columns.ensures ∙ t.here.columns)) (sym (next_of g.P.Pages c.load.new.pages db c.in_ok-catalog.catalog c.args.table.now c.in-Some.info.now t))) in
    let long = ap (λ (l : List (List ℕ)). length l) c.as_slice-in-Ok.ensures in
    insert_grows g.P.Pages c.one_turn.ensures.step c.load.new.pages db c.in_ok-catalog.catalog c.args.table.now c.in-Some.info.now t
    (c.found_among.ensures.named c.args.table.now c.in_ok-catalog.catalog.tables c.in-Some.info.now (sym c.in-Some.ensures)).1 (option_copied c.args.listed) c.args.rows.now c.in-Ok.bytes read.0 read.1 stepped steps
    (g.P.Pages.count c.args.pages.now) (g.P.Pages.count c.set_heap.new.pages) (let each = c.in_ok-append_rows-in-Ok.ensures.by_each in omega (arith, c.set_heap.ensures.count, each, c.in_ok-catalog.ensures.count, long))

pub returns-in-Ok-clause-grows : goal.returns-in-Ok-clause-grows
returns-in-Ok-clause-grows g c = λ tells db s stepped steps.
    let t = has_table g.P.Pages c.tables_are_found.ensures.some c.load.new.pages db c.in_ok-catalog.catalog c.args.table.now c.in-Some.info.now (c.in_ok-catalog.ensures.opened tells db s) (sym c.in-Some.ensures) in
    let read = read_at t.table c.as_slice-columns.result.now (option_copied c.args.listed) c.args.rows.now c.as_slice.result.now c.in-Ok.bytes (sym (c.as_slice-columns.ensures ∙ t.here.columns)) c.as_slice.ensures
    (c.in-Ok.ensures t.table (sym (c.as_slice-columns.ensures ∙ t.here.columns)) (sym (next_of g.P.Pages c.load.new.pages db c.in_ok-catalog.catalog c.args.table.now c.in-Some.info.now t))) in
    let long = ap (λ (l : List (List ℕ)). length l) c.as_slice-in-Ok.ensures in
    insert_grows g.P.Pages c.one_turn.ensures.step c.load.new.pages db c.in_ok-catalog.catalog c.args.table.now c.in-Some.info.now t
    (c.found_among.ensures.named c.args.table.now c.in_ok-catalog.catalog.tables c.in-Some.info.now (sym c.in-Some.ensures)).1 (option_copied c.args.listed) c.args.rows.now c.in-Ok.bytes read.0 read.1 stepped steps
    (g.P.Pages.count c.args.pages.now) (g.P.Pages.count c.set_heap.new.pages) (let each = c.in_ok-append_rows-in-Ok.ensures.by_each in omega (arith, c.in_ok-set_heap-in-Ok.ensures.count, each, c.in_ok-catalog.ensures.count, long))
