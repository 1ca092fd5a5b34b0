use Rattle.std.proofs.Common.{◌≡◌, ℕ, List, Option, sym, ◌∙◌, ap, subst}
use Rattle.gx_value.specs.declared.types.ColumnType.{ColumnType}
use Rattle.gx_value.specs.declared.value.Value.{Value}
use Rattle.gx_value.specs.Rows.{SpellsRow}
use Rattle.gx_value.specs.Values.{Datum, row_of}
use Rattle.gx_model.specs.Truth.{selects}
use Rattle.gx_plan.specs.Bounds.{kinds_of}
use Rattle.gx_query.specs.Walks.{condition_of}
use Rattle.gx_query.specs.Wanted.{narrowed}
use Rattle.gx_query.proofs.Narrowing.{breaks_at, no_and_yes, row_narrowed, same_selected}
use Rattle.gx_query.proofs.walk.is_selected.Goals as goal

pub returns-then-not-so-clause-cause : goal.returns-then-not-so-clause-cause
returns-then-not-so-clause-cause c =
    breaks_at c.no_row.result c.args.page _ c.no_row.ensures (λ fields spells.
    let row = row_narrowed c.args.columns.now c.args.filter.now.wanted.items c.as_slice.result.now c.args.bytes.now c.truncate.new.self c.narrow.new.to c.in-Ok.so
    c.as_slice.ensures.value c.requires.long c.truncate.ensures c.in-Ok.ensures fields spells in
    no_and_yes c.in-Ok.so c.if-not-so.true row.0)

pub returns-in_default-decoded-clause-cause : goal.returns-in_default-decoded-clause-cause
returns-in_default-decoded-clause-cause c =
    breaks_at c.no_row-in_default-decoded.result c.args.page _ c.no_row-in_default-decoded.ensures (λ fields spells.
    let row = row_narrowed c.args.columns.now c.args.filter.now.wanted.items c.as_slice.result.now c.args.bytes.now c.truncate.new.self c.narrow.new.to c.in-Ok.so
    c.as_slice.ensures.value c.requires.long c.truncate.ensures c.in-Ok.ensures fields spells in
    let none = rw c.in_default-decoded.is at c.in-Ok-decode_row.ensures in
    none (narrowed c.args.filter.now.wanted.items fields)
    (subst (λ (l : List ℕ). SpellsRow c.as_slice-2.result.now l (narrowed c.args.filter.now.wanted.items fields)) (sym c.as_slice-3.ensures)
    (subst (λ (kinds : List ColumnType). SpellsRow kinds c.narrow.new.to (narrowed c.args.filter.now.wanted.items fields)) (sym (c.as_slice-2.ensures.value ∙ c.requires.kinds)) row.1)))

pub returns-in-Ok-selects-clause-selected : goal.returns-in-Ok-selects-clause-selected
returns-in-Ok-selects-clause-selected c = λ fields spells.
    let wanted = c.args.filter.now.wanted.items in
    let condition = condition_of c.args.filter.now in
    let row = row_narrowed c.args.columns.now wanted c.as_slice.result.now c.args.bytes.now c.truncate.new.self c.narrow.new.to c.in-Ok.so
    c.as_slice.ensures.value c.requires.long c.truncate.ensures c.in-Ok.ensures fields spells in
    let found = rw c.in-Some.is at c.in-Ok-decode_row.ensures in
    let there : SpellsRow (kinds_of c.args.columns.now) c.narrow.new.to (row_of c.in-Some.fields) =
    subst (λ (kinds : List ColumnType). SpellsRow kinds c.narrow.new.to (row_of c.in-Some.fields)) (c.as_slice-2.ensures.value ∙ c.requires.kinds)
    (subst (λ (l : List ℕ). SpellsRow c.as_slice-2.result.now l (row_of c.in-Some.fields)) c.as_slice-3.ensures found) in
    let same : row_of c.in-Some.fields ≡ narrowed wanted fields =
    c.one_row.ensures.row (kinds_of c.args.columns.now) c.narrow.new.to (row_of c.in-Some.fields) (narrowed wanted fields) there row.1 in
    c.in-Ok-selects.ensures ∙ ap (λ (f : List (Option Value)). selects condition (row_of f)) c.as_slice-4.ensures
    ∙ ap (λ (r : List (Option Datum)). selects condition r) same ∙ same_selected wanted condition fields c.requires.covers
