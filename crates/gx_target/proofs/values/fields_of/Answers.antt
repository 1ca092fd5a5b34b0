-- A field more.
use Rattle.std.proofs.Common.{◌∷◌, [], option_map, ap, ◌∙◌}
use Rattle.std.proofs.lemmas.List.{map-append}
use Rattle.gx_value.specs.Values.{datum_of, row_of}
use Rattle.gx_target.proofs.ValueFacts.{filling_more}
use Rattle.gx_target.proofs.values.fields_of.Goals as goal

pub loop-place-preserved : goal.loop-place-preserved
loop-place-preserved c =
    filling_more c.args.columns.now c.args.places.now (row_of c.args.values.items) (row_of c.loop-place.values.items) (row_of c.take_for-value.new.values.items) (row_of c.loop-place.fields) (row_of c.push.new.self)
    c.loop-place.place (option_map datum_of c.take_for-value.result) c.requires.distinct c.requires.places c.loop-place-test.true c.loop-place.invariant c.take_for-value.ensures.value c.take_for-value.ensures.others
    (ap row_of c.in_ok-push.ensures.ok ∙ map-append (option_map datum_of) c.loop-place.fields (c.take_for-value.result ∷ []))
