use Rattle.std.proofs.Common.{◌≡◌, inl, inr, ℕ, ◌||◌, nat_le, nat_lt, true, false, List, [], ◌∷◌, ◌++◌, length, codes, None, Some, refl, sym, ◌∙◌, ap, subst, arith}
use Rattle.std.specs.Prelude.{is_some}
use Rattle.std.specs.List.{filter_map}
use Rattle.std.proofs.lemmas.Result.{err_from_is_err_and}
use Rattle.gx_pages.proofs.Footprints.{cause_weaker}
use Rattle.gx_catalog.specs.declared.info.TableInfo.{TableInfo}
use Rattle.gx_catalog.specs.Validity.{table_named as info_named}
use Rattle.gx_parse.specs.declared.statement.ColumnWord.{ColumnWord}
use Rattle.gx_parse.specs.Said.{CreateTable}
use Rattle.gx_model.specs.Checks.{Find}
use Rattle.gx_model.specs.Database.{table_named}
use Rattle.gx_model.specs.Faults.{new_column_checks}
use Rattle.gx_model.specs.Refusals.{Refuses}
use Rattle.gx_model.specs.declared.refusal.Refusal.{Refusal}
use Rattle.gx_model.specs.Replies.{line}
use Rattle.gx_model.specs.Steps.{column_of, new_table}
use Rattle.gx_database.specs.Heaps.{Stored}
use Rattle.gx_change.proofs.Effects.{as_many, create_done, create_grows, create_lacks_room, present}
use Rattle.gx_change.proofs.Frame.{catalog_there, heap_added}
use Rattle.gx_change.proofs.Names.{made_info, made_table, room_left}
use Rattle.gx_change.proofs.Refused.{all_done, all_refused}
use Rattle.gx_change.proofs.table.create_table.Goals as goal

pub returns-in-Some-clause-done : goal.returns-in-Some-clause-done
returns-in-Some-clause-done g c =
    all_refused g.P.Pages c.args.pages.now c.load.new.pages (CreateTable c.args.name.now c.args.columns.now) 3 c.refused.result c.in_ok-catalog.ensures.map c.in_ok-catalog.ensures.count
    (λ tells db s.
    let o = c.in_ok-catalog.ensures.opened tells db s in
    inr (3, (present g.P.Pages c.tables_are_found.ensures.some c.load.new.pages db c.in_ok-catalog.catalog c.args.name.now c.in-Some._table.now o (sym c.in-Some.ensures), refl), refl))
    c.refused.ensures.reply

pub returns-then-are_too_many-clause-done : goal.returns-then-are_too_many-clause-done
returns-then-are_too_many-clause-done g c =
    let size : (nat_le 256 (length c.in_ok-catalog.catalog.tables) || nat_lt 32 (length c.args.columns.now)) ≡ true =
    subst (λ (k : ℕ). (nat_le 256 k || nat_lt 32 (length c.args.columns.now)) ≡ true) (ap (λ (l : List TableInfo). length l) c.tables.ensures.value)
    (subst (λ (k : ℕ). (nat_le 256 (length c.tables.result.now) || nat_lt 32 k) ≡ true) c.len.ensures (sym c.are_too_many.ensures ∙ c.if-are_too_many.true)) in
    all_refused g.P.Pages c.args.pages.now c.load.new.pages (CreateTable c.args.name.now c.args.columns.now) 16 c.refused-then-are_too_many.result c.in_ok-catalog.ensures.map c.in_ok-catalog.ensures.count
    (λ tells db s.
    let o = c.in_ok-catalog.ensures.opened tells db s in
    let absent : table_named db c.args.name.now ≡ None = c.tables_are_found.ensures.none db c.in_ok-catalog.catalog.tables o.heaps c.args.name.now o.tables (sym c.in_default.ensures) in
    inl (ap is_some absent, inr (16, (as_many g.P.Pages c.load.new.pages db c.in_ok-catalog.catalog (length c.args.columns.now) true o size, refl), refl)))
    c.refused-then-are_too_many.ensures.reply

pub returns-in-Err-Fault-clause-done : goal.returns-in-Err-Fault-clause-done
returns-in-Err-Fault-clause-done g c =
    let size : (nat_le 256 (length c.in_ok-catalog.catalog.tables) || nat_lt 32 (length c.args.columns.now)) ≡ false =
    subst (λ (k : ℕ). (nat_le 256 k || nat_lt 32 (length c.args.columns.now)) ≡ false) (ap (λ (l : List TableInfo). length l) c.tables.ensures.value)
    (subst (λ (k : ℕ). (nat_le 256 (length c.tables.result.now) || nat_lt 32 k) ≡ false) c.len.ensures (sym c.are_too_many.ensures ∙ c.if-are_too_many.false)) in
    all_refused g.P.Pages c.args.pages.now c.load.new.pages (CreateTable c.args.name.now c.args.columns.now) c.in-Err-Fault.number c.refused-in-Err-Fault.result c.in_ok-catalog.ensures.map c.in_ok-catalog.ensures.count
    (λ tells db s.
    let o = c.in_ok-catalog.ensures.opened tells db s in
    let absent : table_named db c.args.name.now ≡ None = c.tables_are_found.ensures.none db c.in_ok-catalog.catalog.tables o.heaps c.args.name.now o.tables (sym c.in_default.ensures) in
    inl (ap is_some absent, inl (as_many g.P.Pages c.load.new.pages db c.in_ok-catalog.catalog (length c.args.columns.now) false o size, subst (λ (l : List ColumnWord). Find (new_column_checks [] l) (Some c.in-Err-Fault.number)) c.as_slice.ensures (subst (λ (r : Refusal). Refuses (new_column_checks [] c.as_slice.result.now) r) c.in-Err-Fault.field-0-is c.in-Err-Fault.ensures))))
    c.refused-in-Err-Fault.ensures.reply

pub returns-in_err-heap-in-Ok-clause-cause : goal.returns-in_err-heap-in-Ok-clause-cause
returns-in_err-heap-in-Ok-clause-cause g c =
    let p = err_from_is_err_and c.from_residual-in_err-heap-in-Ok.result c.from_residual-in_err-heap-in-Ok.ensures.1 in
    let size : (nat_le 256 (length c.in_ok-catalog.catalog.tables) || nat_lt 32 (length c.args.columns.now)) ≡ false =
    subst (λ (k : ℕ). (nat_le 256 k || nat_lt 32 (length c.args.columns.now)) ≡ false) (ap (λ (l : List TableInfo). length l) c.tables.ensures.value)
    (subst (λ (k : ℕ). (nat_le 256 (length c.tables.result.now) || nat_lt 32 k) ≡ false) c.len.ensures (sym c.are_too_many.ensures ∙ c.if-are_too_many.false)) in
    let read = subst (λ (l : List ColumnWord). Find (new_column_checks [] l) None × (c.in-Ok.columns ≡ filter_map column_of l)) c.as_slice.ensures c.in-Ok.ensures in
    rw (p.1, p.2)
    (cause_weaker c.in_err-heap-in-Ok.field-0.0 (g.P.Pages.faults c.args.pages.now) (g.P.Pages.faults c.load.new.pages) (g.P.Pages.faults c.create.new.pages) (g.P.Pages.faults c.create.new.pages)
    _ _ _ _ _ _ (let q = c.in_ok-catalog.ensures.quiet.faults in omega (arith, q)) (omega arith)
    (λ at expected found broken tells db s.
    let o = c.in_ok-catalog.ensures.opened tells db s in
    broken tells o.holds.free o.holds.parts.frees)
    (λ count full tells db s.
    let o = c.in_ok-catalog.ensures.opened tells db s in
    let absent : table_named db c.args.name.now ≡ None = c.tables_are_found.ensures.none db c.in_ok-catalog.catalog.tables o.heaps c.args.name.now o.tables (sym c.in_default.ensures) in
    create_lacks_room g.P.Pages db c.args.name.now c.args.columns.now absent (as_many g.P.Pages c.load.new.pages db c.in_ok-catalog.catalog (length c.args.columns.now) false o size) read.0 (g.P.Pages.count c.args.pages.now)
    (let one = c.create.ensures.by_one in let counted = full.counted in omega (arith, one, counted, c.in_ok-catalog.ensures.count)))
    (λ memory. tt) c.in_err-heap-in-Ok.ensures.cause)

pub add_table-requires : goal.add_table-requires
add_table-requires g c =
    let size : (nat_le 256 (length c.in_ok-catalog.catalog.tables) || nat_lt 32 (length c.args.columns.now)) ≡ false =
    subst (λ (k : ℕ). (nat_le 256 k || nat_lt 32 (length c.args.columns.now)) ≡ false) (ap (λ (l : List TableInfo). length l) c.tables.ensures.value)
    (subst (λ (k : ℕ). (nat_le 256 (length c.tables.result.now) || nat_lt 32 k) ≡ false) c.len.ensures (sym c.are_too_many.ensures ∙ c.if-are_too_many.false)) in
    let read = subst (λ (l : List ColumnWord). Find (new_column_checks [] l) None × (c.in-Ok.columns ≡ filter_map column_of l)) c.as_slice.ensures c.in-Ok.ensures in
    let info : TableInfo = record { name = c.in-Ok-from_slice.name; number = c.free_number-number.result; columns = c.in-Ok.columns; heap = c.in_ok-heap-in-Ok.heap } in
    let room = room_left (length c.in_ok-catalog.catalog.tables) (length c.args.columns.now) size in
    let named = c.in-Ok-from_slice.ensures in
    c.one_more_table.ensures c.in_ok-catalog.catalog.tables c.in_ok-catalog.catalog.indexes info c.in_ok-catalog.ensures.valid room.0
    (made_info info (new_table c.args.name.now c.args.columns.now) (made_table c.stays_valid.ensures.step c.args.name.now c.args.columns.now c.requires room.1 read.0) named read.1 c.in_ok-heap-in-Ok.ensures.next)
    (subst (λ (k : List ℕ). info_named k c.in_ok-catalog.catalog.tables ≡ None) (sym named) (sym c.in_default.ensures)) c.free_number-number.ensures.free

pub returns-in_err-add_table-in-Ok-clause-cause : goal.returns-in_err-add_table-in-Ok-clause-cause
returns-in_err-add_table-in-Ok-clause-cause g c =
    let p = err_from_is_err_and c.from_residual-in_err-add_table-in-Ok.result c.from_residual-in_err-add_table-in-Ok.ensures.1 in
    let size : (nat_le 256 (length c.in_ok-catalog.catalog.tables) || nat_lt 32 (length c.args.columns.now)) ≡ false =
    subst (λ (k : ℕ). (nat_le 256 k || nat_lt 32 (length c.args.columns.now)) ≡ false) (ap (λ (l : List TableInfo). length l) c.tables.ensures.value)
    (subst (λ (k : ℕ). (nat_le 256 (length c.tables.result.now) || nat_lt 32 k) ≡ false) c.len.ensures (sym c.are_too_many.ensures ∙ c.if-are_too_many.false)) in
    let read = subst (λ (l : List ColumnWord). Find (new_column_checks [] l) None × (c.in-Ok.columns ≡ filter_map column_of l)) c.as_slice.ensures c.in-Ok.ensures in
    rw (p.1, p.2)
    (cause_weaker c.in_err-add_table-in-Ok.field-0.0 (g.P.Pages.faults c.args.pages.now) (g.P.Pages.faults c.create.new.pages) (g.P.Pages.faults c.add_table.new.pages) (g.P.Pages.faults c.add_table.new.pages)
    _ _ _ _ _ _ (let q = c.in_ok-catalog.ensures.quiet.faults in let r = c.in_ok-heap-in-Ok.ensures.quiet.faults in omega (arith, q, r)) (omega arith)
    (λ at expected found broken tells db s.
    let o = c.in_ok-catalog.ensures.opened tells db s in
    let made = c.in_ok-heap-in-Ok.ensures.made tells o.holds.free o.holds.parts.frees in
    let stored : Stored = record { heap = c.in_ok-heap-in-Ok.heap; rows = []; feet = c.in_ok-heap-in-Ok.heap.first ∷ [] } in
    let h = heap_added g.P.Pages c.load.new.pages c.create.new.pages c.in_ok-catalog.catalog o.heaps stored made.0 o.holds (record { counted = g.met.P.Pages.counted c.create.new.pages tells; bounded = g.met.P.Pages.bounded c.create.new.pages; ends = g.met.P.Pages.ends c.create.new.pages tells }) made.1 made.2 in
    broken tells h.feet h.free (catalog_there g.P.Pages c.create.new.pages c.in_ok-catalog.catalog (o.heaps ++ stored ∷ []) h))
    (λ count full tells db s.
    let o = c.in_ok-catalog.ensures.opened tells db s in
    let absent : table_named db c.args.name.now ≡ None = c.tables_are_found.ensures.none db c.in_ok-catalog.catalog.tables o.heaps c.args.name.now o.tables (sym c.in_default.ensures) in
    create_lacks_room g.P.Pages db c.args.name.now c.args.columns.now absent (as_many g.P.Pages c.load.new.pages db c.in_ok-catalog.catalog (length c.args.columns.now) false o size) read.0 (g.P.Pages.count c.args.pages.now)
    (let one = c.in_ok-heap-in-Ok.ensures.by_one in let two = c.add_table.ensures.by_one in let counted = full.counted in omega (arith, one, two, counted, c.in_ok-catalog.ensures.count)))
    (λ memory. tt) c.in_err-add_table-in-Ok.ensures.cause)

pub returns-in-Ok-clause-done : goal.returns-in-Ok-clause-done
returns-in-Ok-clause-done g c =
    let size : (nat_le 256 (length c.in_ok-catalog.catalog.tables) || nat_lt 32 (length c.args.columns.now)) ≡ false =
    subst (λ (k : ℕ). (nat_le 256 k || nat_lt 32 (length c.args.columns.now)) ≡ false) (ap (λ (l : List TableInfo). length l) c.tables.ensures.value)
    (subst (λ (k : ℕ). (nat_le 256 (length c.tables.result.now) || nat_lt 32 k) ≡ false) c.len.ensures (sym c.are_too_many.ensures ∙ c.if-are_too_many.false)) in
    let read = subst (λ (l : List ColumnWord). Find (new_column_checks [] l) None × (c.in-Ok.columns ≡ filter_map column_of l)) c.as_slice.ensures c.in-Ok.ensures in
    let info : TableInfo = record { name = c.in-Ok-from_slice.name; number = c.free_number-number.result; columns = c.in-Ok.columns; heap = c.in_ok-heap-in-Ok.heap } in
    all_done g.P.Pages c.args.pages.now c.add_table.new.pages (CreateTable c.args.name.now c.args.columns.now) (line (codes "CREATE TABLE")) c.told.result
    (λ reply is tells db s.
    let o = c.in_ok-catalog.ensures.opened tells db s in
    let absent : table_named db c.args.name.now ≡ None = c.tables_are_found.ensures.none db c.in_ok-catalog.catalog.tables o.heaps c.args.name.now o.tables (sym c.in_default.ensures) in
    let made = c.in_ok-heap-in-Ok.ensures.made tells o.holds.free o.holds.parts.frees in
    create_done g.P.Pages c.stays_valid.ensures.step c.args.pages.now c.load.new.pages c.create.new.pages c.add_table.new.pages db c.in_ok-catalog.catalog c.add_table.new.self o c.args.name.now c.args.columns.now c.requires
    absent (as_many g.P.Pages c.load.new.pages db c.in_ok-catalog.catalog (length c.args.columns.now) false o size) read.0 (record { counted = g.met.P.Pages.counted c.create.new.pages tells; bounded = g.met.P.Pages.bounded c.create.new.pages; ends = g.met.P.Pages.ends c.create.new.pages tells }) (record { counted = g.met.P.Pages.counted c.add_table.new.pages tells; bounded = g.met.P.Pages.bounded c.add_table.new.pages; ends = g.met.P.Pages.ends c.add_table.new.pages tells })
    info (c.in_ok-heap-in-Ok.heap.first ∷ []) made.0 c.in-Ok-from_slice.ensures read.1 c.in_ok-heap-in-Ok.ensures.next made.1 made.2
    (c.in_ok-add_table-in-Ok.ensures.added tells) c.in_ok-add_table-in-Ok.ensures.tables c.in_ok-add_table-in-Ok.ensures.indexes
    (let one = c.in_ok-heap-in-Ok.ensures.by_one in let two = c.in_ok-add_table-in-Ok.ensures.by_one in omega (arith, one, two, c.in_ok-catalog.ensures.count)) reply is)
    c.told.ensures.reply

pub returns-in_err-heap-in-Ok-clause-grows : goal.returns-in_err-heap-in-Ok-clause-grows
returns-in_err-heap-in-Ok-clause-grows g c = λ tells db s stepped steps.
    let size : (nat_le 256 (length c.in_ok-catalog.catalog.tables) || nat_lt 32 (length c.args.columns.now)) ≡ false =
    subst (λ (k : ℕ). (nat_le 256 k || nat_lt 32 (length c.args.columns.now)) ≡ false) (ap (λ (l : List TableInfo). length l) c.tables.ensures.value)
    (subst (λ (k : ℕ). (nat_le 256 (length c.tables.result.now) || nat_lt 32 k) ≡ false) c.len.ensures (sym c.are_too_many.ensures ∙ c.if-are_too_many.false)) in
    let read = subst (λ (l : List ColumnWord). Find (new_column_checks [] l) None × (c.in-Ok.columns ≡ filter_map column_of l)) c.as_slice.ensures c.in-Ok.ensures in
    let o = c.in_ok-catalog.ensures.opened tells db s in
    let absent : table_named db c.args.name.now ≡ None = c.tables_are_found.ensures.none db c.in_ok-catalog.catalog.tables o.heaps c.args.name.now o.tables (sym c.in_default.ensures) in
    create_grows g.P.Pages c.one_turn.ensures.step db c.args.name.now c.args.columns.now absent (as_many g.P.Pages c.load.new.pages db c.in_ok-catalog.catalog (length c.args.columns.now) false o size) read.0 stepped steps
    (g.P.Pages.count c.args.pages.now) (g.P.Pages.count c.create.new.pages) (let one = c.create.ensures.by_one in omega (arith, one, c.in_ok-catalog.ensures.count))

pub returns-in_err-add_table-in-Ok-clause-grows : goal.returns-in_err-add_table-in-Ok-clause-grows
returns-in_err-add_table-in-Ok-clause-grows g c = λ tells db s stepped steps.
    let size : (nat_le 256 (length c.in_ok-catalog.catalog.tables) || nat_lt 32 (length c.args.columns.now)) ≡ false =
    subst (λ (k : ℕ). (nat_le 256 k || nat_lt 32 (length c.args.columns.now)) ≡ false) (ap (λ (l : List TableInfo). length l) c.tables.ensures.value)
    (subst (λ (k : ℕ). (nat_le 256 (length c.tables.result.now) || nat_lt 32 k) ≡ false) c.len.ensures (sym c.are_too_many.ensures ∙ c.if-are_too_many.false)) in
    let read = subst (λ (l : List ColumnWord). Find (new_column_checks [] l) None × (c.in-Ok.columns ≡ filter_map column_of l)) c.as_slice.ensures c.in-Ok.ensures in
    let o = c.in_ok-catalog.ensures.opened tells db s in
    let absent : table_named db c.args.name.now ≡ None = c.tables_are_found.ensures.none db c.in_ok-catalog.catalog.tables o.heaps c.args.name.now o.tables (sym c.in_default.ensures) in
    create_grows g.P.Pages c.one_turn.ensures.step db c.args.name.now c.args.columns.now absent (as_many g.P.Pages c.load.new.pages db c.in_ok-catalog.catalog (length c.args.columns.now) false o size) read.0 stepped steps
    (g.P.Pages.count c.args.pages.now) (g.P.Pages.count c.add_table.new.pages) (let one = c.in_ok-heap-in-Ok.ensures.by_one in let two = c.add_table.ensures.by_one in omega (arith, one, two, c.in_ok-catalog.ensures.count))

pub returns-in-Ok-clause-grows : goal.returns-in-Ok-clause-grows
returns-in-Ok-clause-grows g c = λ tells db s stepped steps.
    let size : (nat_le 256 (length c.in_ok-catalog.catalog.tables) || nat_lt 32 (length c.args.columns.now)) ≡ false =
    subst (λ (k : ℕ). (nat_le 256 k || nat_lt 32 (length c.args.columns.now)) ≡ false) (ap (λ (l : List TableInfo). length l) c.tables.ensures.value)
    (subst (λ (k : ℕ). (nat_le 256 (length c.tables.result.now) || nat_lt 32 k) ≡ false) c.len.ensures (sym c.are_too_many.ensures ∙ c.if-are_too_many.false)) in
    let read = subst (λ (l : List ColumnWord). Find (new_column_checks [] l) None × (c.in-Ok.columns ≡ filter_map column_of l)) c.as_slice.ensures c.in-Ok.ensures in
    let o = c.in_ok-catalog.ensures.opened tells db s in
    let absent : table_named db c.args.name.now ≡ None = c.tables_are_found.ensures.none db c.in_ok-catalog.catalog.tables o.heaps c.args.name.now o.tables (sym c.in_default.ensures) in
    create_grows g.P.Pages c.one_turn.ensures.step db c.args.name.now c.args.columns.now absent (as_many g.P.Pages c.load.new.pages db c.in_ok-catalog.catalog (length c.args.columns.now) false o size) read.0 stepped steps
    (g.P.Pages.count c.args.pages.now) (g.P.Pages.count c.add_table.new.pages) (let one = c.in_ok-heap-in-Ok.ensures.by_one in let two = c.in_ok-add_table-in-Ok.ensures.by_one in omega (arith, one, two, c.in_ok-catalog.ensures.count))
