-- A row that is refused, one without a number, one row more, and the end.
use Rattle.std.proofs.Common.{◌≡◌, ◌++◌, ◌∷◌, [], List, subst}
use Rattle.std.proofs.lemmas.Result.{err_from_is_err_and}
use Rattle.gx_parse.specs.declared.statement.Given.{Given}
use Rattle.gx_model.specs.Refusals.{Refuses}
use Rattle.gx_target.specs.Encoded.{EncodesRow, row_checks}
use Rattle.gx_target.specs.Places.{columns_at}
use Rattle.gx_target.proofs.Lists.{when_ok}
use Rattle.gx_target.proofs.RowFacts.{encoding_refused, no_number, encoding_more, all_encoded}
use Rattle.gx_target.proofs.rows.encode_rows.Goals as goal

pub returns-in_err-bytes : goal.returns-in_err-bytes
returns-in_err-bytes c =
    let targets = columns_at c.args.columns.now c.args.places.now in
    let p = err_from_is_err_and c.from_residual.result c.from_residual.ensures.1 in
    let P : List Given → Type 0 = λ g. Refuses (row_checks c.args.columns.now targets g) c.in_err-bytes.field-0.0 in
    rw (p.1, p.2) (
    encoding_refused c.args.columns.now targets c.args.rows.now c.args.next c.loop-row.row-index c.loop-row.number c.loop-row.all c.row-item.result c.row-item.result c.loop-row-test.true c.row-item.is c.loop-row.invariant
    c.in_err-bytes.field-0.0 (subst P c.as_slice.ensures c.in_err-bytes.ensures)
    )

pub returns-then-number-ge-END_OF_NUMBERS : goal.returns-then-number-ge-END_OF_NUMBERS
returns-then-number-ge-END_OF_NUMBERS c =
    let targets = columns_at c.args.columns.now c.args.places.now in
    let P : List Given → Type 0 = λ g. EncodesRow c.args.columns.now targets g c.in_ok-bytes.bytes in
    let encoded = subst P c.as_slice.ensures c.in_ok-bytes.ensures in
    no_number c.args.columns.now targets c.args.rows.now c.args.next c.loop-row.row-index c.loop-row.number c.loop-row.all c.row-item.result c.row-item.result c.loop-row-test.true c.row-item.is c.loop-row.invariant
    encoded.passes c.if-number-ge-END_OF_NUMBERS.true

pub loop-row-preserved : goal.loop-row-preserved
loop-row-preserved c =
    let targets = columns_at c.args.columns.now c.args.places.now in
    let P : List Given → Type 0 = λ g. EncodesRow c.args.columns.now targets g c.in_ok-bytes.bytes in
    let encoded = subst P c.as_slice.ensures c.in_ok-bytes.ensures in
    let grown = when_ok c.push.result (c.push.new.self ≡ c.loop-row.all ++ c.in_ok-bytes.bytes ∷ []) c.if-is_err.ensures.value c.push.ensures.ok in
    encoding_more c.args.columns.now targets c.args.rows.now c.args.next c.loop-row.row-index c.loop-row.number c.loop-row.all c.row-item.result c.row-item.result c.loop-row-test.true c.row-item.is c.loop-row.invariant
    c.in_ok-bytes.bytes c.push.new.self encoded c.if-number-ge-END_OF_NUMBERS.false grown

pub returns : goal.returns
returns c =
    all_encoded c.args.columns.now (columns_at c.args.columns.now c.args.places.now) c.args.rows.now c.args.next c.loop-row.row-index c.loop-row.number c.loop-row.all c.loop-row-test.false c.loop-row.invariant
