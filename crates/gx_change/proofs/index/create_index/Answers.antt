use Rattle.std.proofs.Common.{ℕ, Bool, Some, refl, sym, ◌∙◌, ap, subst}
use Rattle.std.specs.Option.{option_copied}
use Rattle.gx_catalog.specs.Validity.{table_named as info_named}
use Rattle.gx_parse.specs.Said.{CreateIndex}
use Rattle.gx_model.specs.Checks.{Find}
use Rattle.gx_model.specs.Faults.{checks}
use Rattle.gx_change.specs.Faults.{index_fault_of}
use Rattle.gx_change.proofs.Indexes.{copied_some, index_fault_found}
use Rattle.gx_change.proofs.Refused.{all_refused}
use Rattle.gx_change.proofs.index.create_index.Goals as goal

pub returns-clause-done : goal.returns-clause-done
returns-clause-done g c =
    let said = CreateIndex c.args.name.now c.args.table.now c.args.method.now c.args.column.now (option_copied c.args.class) (option_copied c.args.parameter) in
    all_refused g.P.Pages c.args.pages.now c.load.new.pages said c.index_fault-fault.result c.refused.result c.in_ok-catalog.ensures.map c.in_ok-catalog.ensures.count
    (λ tells db s.
    let o = c.in_ok-catalog.ensures.opened tells db s in
    let found = index_fault_found c.tables_are_found.ensures.some c.tables_are_found.ensures.none db c.in_ok-catalog.catalog.tables o.heaps c.args.name.now c.args.table.now c.args.method.now c.args.column.now
    (option_copied c.args.class) (option_copied c.args.parameter) (info_named c.args.table.now c.in_ok-catalog.catalog.tables) o.tables o.valid.no_index refl in
    subst (λ (k : ℕ). Find (checks db said) (Some k))
    (sym (c.index_fault-fault.ensures
    ∙ ap (λ (b : Bool). index_fault_of (info_named c.args.table.now c.in_ok-catalog.catalog.tables) c.args.method.now c.args.column.now b) (c.is_some.ensures ∙ sym (copied_some c.args.class)))) found)
    c.refused.ensures.reply
