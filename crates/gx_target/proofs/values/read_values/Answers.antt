-- A value that is refused, one value more, and the end.
use Rattle.std.proofs.Common.{◌≡◌, ◌<◌, ◌++◌, ◌∷◌, [], ℕ, length, get_or, option_map, refl, ap, ◌∙◌, arith, rules}
use Rattle.std.proofs.lemmas.List.{map-append}
use Rattle.std.proofs.lemmas.Result.{err_from_is_err_and}
use Rattle.gx_value.specs.Values.{datum_of, row_of}
use Rattle.gx_target.proofs.LineFacts.{column_read}
use Rattle.gx_target.proofs.Lists.{all_at}
use Rattle.gx_target.proofs.ValueFacts.{value_refused, value_more, values_read}
use Rattle.gx_target.proofs.values.read_values.Goals as goal

pub returns-in_err-value : goal.returns-in_err-value
returns-in_err-value c =
    let test = c.loop-i-test.true in
    let width = c.requires.width in
    let below : c.loop-i.i < length c.args.places.now = omega arith in
    let place : ℕ = get_or c.args.places.now c.loop-i.i 0 in
    let inside : place < length c.args.columns.now = all_at (λ p. p < length c.args.columns.now) c.args.places.now c.loop-i.i 0 c.requires.places below in
    let p = err_from_is_err_and c.from_residual.result c.from_residual.ensures.1 in
    rw (p.1, p.2) (
    value_refused c.args.columns.now c.args.places.now c.args.row.now c.loop-i.i place c.index-columns-place.result c.index-row-i.result c.index-row-i.result (row_of c.loop-i.values.items) c.requires.places below refl
    (column_read c.args.columns.now place c.index-columns-place.result inside c.index-columns-place.is) c.loop-i-test.true c.index-row-i.is c.loop-i.invariant c.in_err-value.field-0.0 c.in_err-value.ensures
    )

pub loop-i-preserved : goal.loop-i-preserved
loop-i-preserved c =
    let test = c.loop-i-test.true in
    let width = c.requires.width in
    let below : c.loop-i.i < length c.args.places.now = omega arith in
    let place : ℕ = get_or c.args.places.now c.loop-i.i 0 in
    let inside : place < length c.args.columns.now = all_at (λ p. p < length c.args.columns.now) c.args.places.now c.loop-i.i 0 c.requires.places below in
    let pushed : c.push.new.self.items ≡ c.loop-i.values.items ++ c.in_ok-value.value ∷ [] = search rules in
    value_more c.args.columns.now c.args.places.now c.args.row.now c.loop-i.i place c.index-columns-place.result c.index-row-i.result c.index-row-i.result (row_of c.loop-i.values.items) c.requires.places below refl
    (column_read c.args.columns.now place c.index-columns-place.result inside c.index-columns-place.is) c.loop-i-test.true c.index-row-i.is c.loop-i.invariant (option_map datum_of c.in_ok-value.value)
    (row_of c.push.new.self.items) c.in_ok-value.ensures (ap row_of pushed ∙ map-append (option_map datum_of) c.loop-i.values.items (c.in_ok-value.value ∷ []))

pub returns : goal.returns
returns c = values_read c.args.columns.now c.args.places.now c.args.row.now c.loop-i.i (row_of c.loop-i.values.items) c.loop-i-test.false c.loop-i.invariant
