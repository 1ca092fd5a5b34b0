-- The list is refused, a row has another width, and the rows.
use Rattle.std.proofs.Common.{◌≡◌, ◌≤◌, ℕ, true, false, List, length, option_copied, sym, ap, ◌∙◌, subst}
use Rattle.std.proofs.lemmas.Result.{err_from_is_err_and}
use Rattle.std.specs.List.{AllByRecursion, list_any}
use Rattle.gx_parse.specs.declared.statement.Given.{Given}
use Rattle.gx_model.specs.Faults.{is_of_other_width, width_of}
use Rattle.gx_target.specs.Places.{ArePlaces}
use Rattle.gx_target.proofs.RowFacts.{list_refused, width_refused, widths_fit, rows_answered}
use Rattle.gx_target.proofs.rows.row_bytes.Goals as goal

pub returns-in_err-places : goal.returns-in_err-places
returns-in_err-places c = λ t columns_are next_is.
    let p = err_from_is_err_and c.from_residual.result c.from_residual.ensures.1 in
    rw (p.1, p.2) (list_refused c.args.columns.now (option_copied c.args.listed) c.args.next c.args.rows.now t columns_are next_is c.in_err-places.field-0.0 c.in_err-places.ensures)

pub returns-then-has_other_width : goal.returns-then-has_other_width
returns-then-has_other_width c = λ t columns_are next_is.
    let other : list_any (is_of_other_width c.args.columns.now (width_of (option_copied c.args.listed) c.args.rows.now)) c.args.rows.now ≡ true =
    ap (λ (w : ℕ). list_any (is_of_other_width c.args.columns.now w) c.args.rows.now) (sym c.width_of.ensures) ∙ sym c.if-has_other_width.ensures in
    width_refused c.args.columns.now (option_copied c.args.listed) c.args.next c.args.rows.now t columns_are next_is c.in_ok-places.ensures.0 other

pub encode_rows-requires-clause-widths : goal.encode_rows-requires-clause-widths
encode_rows-requires-clause-widths c =
    let same : list_any (is_of_other_width c.args.columns.now (width_of (option_copied c.args.listed) c.args.rows.now)) c.args.rows.now ≡ false =
    ap (λ (w : ℕ). list_any (is_of_other_width c.args.columns.now w) c.args.rows.now) (sym c.width_of.ensures) ∙ sym c.if-has_other_width.ensures in
    let P : List ℕ → Type 0 = λ ps. AllByRecursion (λ (row : List Given). length row ≤ length ps) c.args.rows.now in
    subst P (sym c.as_slice.ensures.value) (widths_fit c.args.columns.now (option_copied c.args.listed) c.in_ok-places.places.items c.args.rows.now c.in_ok-places.ensures.0 c.in_ok-places.ensures.1 same)

pub returns : goal.returns
returns c = λ t columns_are next_is.
    let same : list_any (is_of_other_width c.args.columns.now (width_of (option_copied c.args.listed) c.args.rows.now)) c.args.rows.now ≡ false =
    ap (λ (w : ℕ). list_any (is_of_other_width c.args.columns.now w) c.args.rows.now) (sym c.width_of.ensures) ∙ sym c.if-has_other_width.ensures in
    let P : List ℕ → Type 0 = λ ps. ArePlaces c.args.columns.now (option_copied c.args.listed) ps in
    rows_answered c.args.columns.now (option_copied c.args.listed) c.args.next c.args.rows.now t columns_are next_is c.in_ok-places.ensures.0 same c.as_slice.result.now c.encode_rows.result
    (subst P (sym c.as_slice.ensures.value) c.in_ok-places.ensures.1) c.encode_rows.ensures
