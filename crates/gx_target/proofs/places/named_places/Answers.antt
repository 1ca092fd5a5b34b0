-- A name of no column, and one place more.
use Rattle.std.proofs.Common.{◌≡◌, ◌++◌, ◌∷◌, [], None, Some, ap, sym, ◌∙◌, rules}
use Rattle.gx_model.specs.Database.{place_of}
use Rattle.gx_target.proofs.PlaceFacts.{asked_unknown, asked_more}
use Rattle.gx_target.proofs.places.named_places.Goals as goal

pub returns-in_default : goal.returns-in_default
returns-in_default c =
    let none : place_of c.args.columns.now c.name-item.result ≡ None = ap (place_of c.args.columns.now) (sym c.as_slice.ensures) ∙ sym c.in_default.ensures in
    asked_unknown c.args.columns.now c.args.names.now c.loop-name.places.items c.loop-name.name-index c.name-item.result c.name-item.result c.loop-name-test.true c.name-item.is c.loop-name.invariant none

pub loop-name-preserved : goal.loop-name-preserved
loop-name-preserved c =
    let found : place_of c.args.columns.now c.name-item.result ≡ Some c.in-Some.place = ap (place_of c.args.columns.now) (sym c.as_slice.ensures) ∙ sym c.in-Some.ensures in
    let pushed : c.push.new.self.items ≡ c.loop-name.places.items ++ c.in-Some.place ∷ [] = search rules in
    asked_more c.args.columns.now c.args.names.now c.loop-name.places.items c.loop-name.name-index c.name-item.result c.name-item.result c.loop-name-test.true c.name-item.is c.loop-name.invariant
    c.in-Some.place c.push.new.self.items found pushed
