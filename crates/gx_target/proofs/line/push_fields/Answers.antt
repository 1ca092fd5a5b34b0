-- A field more.
use Rattle.std.proofs.Common.{◌≡◌, ◌<◌, ◌++◌, ℕ, length, get_or, option_map, refl, sym, ap, ◌∙◌, arith}
use Rattle.gx_value.specs.declared.fields.Column.{Column}
use Rattle.gx_value.specs.Values.{datum_of, row_of}
use Rattle.gx_model.specs.Replies.{field_text}
use Rattle.gx_target.proofs.LineFacts.{texts_more, field_valid, column_read, field_read}
use Rattle.gx_target.proofs.Lists.{all_at}
use Rattle.gx_target.proofs.line.push_fields.Goals as goal

pub push_field-requires : goal.push_field-requires
push_field-requires c =
    let below : get_or c.args.places.now c.loop-i.i 0 < length c.args.columns.now = all_at (λ p. p < length c.args.columns.now) c.args.places.now c.loop-i.i 0 c.requires.places c.loop-i-test.true in
    field_valid c.args.columns.now c.args.fields.now (get_or c.args.places.now c.loop-i.i 0) c.index-columns-place.result c.index-fields-place.result c.requires.fields below c.index-fields-place.is

pub loop-i-preserved : goal.loop-i-preserved
loop-i-preserved c =
    let place : ℕ = get_or c.args.places.now c.loop-i.i 0 in
    let below : place < length c.args.columns.now = all_at (λ p. p < length c.args.columns.now) c.args.places.now c.loop-i.i 0 c.requires.places c.loop-i-test.true in
    let inside : place < length c.args.fields.now = omega (arith, c.requires.count) in
    let value = option_map datum_of c.index-fields-place.result in
    texts_more c.args.columns.now c.args.places.now (row_of c.args.fields.now) c.requires.distinct c.requires.places c.loop-i.i place c.index-columns-place.result value c.args.to.now c.loop-i.to
    c.push_separator.new.to c.push_field.new.to c.loop-i-test.true refl (column_read c.args.columns.now place c.index-columns-place.result below c.index-columns-place.is)
    (field_read c.args.fields.now place c.index-fields-place.result inside c.index-fields-place.is) c.loop-i.invariant c.in_ok-push_separator.ensures
    (c.in_ok-push_field.ensures ∙ ap (λ (y : Column). c.push_separator.new.to ++ field_text y.kind value) (sym c.index-columns-place.is))
