-- Values that are refused, a row, and one that has no bytes.
use Rattle.std.proofs.lemmas.Result.{err_from_is_err_and}
use Rattle.gx_value.proofs.ValidLemmas.{valid_row}
use Rattle.gx_value.specs.Values.{row_of}
use Rattle.gx_target.specs.Places.{columns_at}
use Rattle.gx_target.proofs.RowFacts.{row_encoded, row_refused, row_unfit}
use Rattle.gx_target.proofs.TargetFacts.{kinds_of}
use Rattle.gx_target.proofs.rows.encode_given.Goals as goal

pub returns-in_err-fields : goal.returns-in_err-fields
returns-in_err-fields c =
    let p = err_from_is_err_and c.from_residual.result c.from_residual.ensures.1 in
    rw (p.1, p.2) (row_refused c.args.columns.now (columns_at c.args.columns.now c.args.places.now) c.args.row.now c.in_err-fields.field-0.0 c.in_err-fields.ensures)

pub encode_row-requires : goal.encode_row-requires
encode_row-requires c = valid_row (kinds_of c.args.columns.now) (row_of c.in_ok-fields.fields) c.in_ok-fields.ensures.1.valid

pub returns-in-Ok : goal.returns-in-Ok
returns-in-Ok c =
    row_encoded c.args.columns.now (columns_at c.args.columns.now c.args.places.now) c.args.row.now (row_of c.in_ok-fields.fields) c.in-Ok.bytes c.in_ok-fields.ensures.0 c.in_ok-fields.ensures.1 c.in-Ok.ensures.0 c.in-Ok.ensures.1

pub returns : goal.returns
returns c =
    let targets = columns_at c.args.columns.now c.args.places.now in
    row_unfit c.args.columns.now targets c.args.row.now c.refusal_of.result c.in_ok-fields.ensures.0
    (c.refusal_of.ensures c.args.columns.now targets c.args.row.now (row_of c.in_ok-fields.fields) c.in_ok-fields.ensures.1.read c.in-Err.ensures)
