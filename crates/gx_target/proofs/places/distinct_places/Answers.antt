-- A name of no column, one that stands before, and one place more.
use Rattle.std.proofs.Common.{◌≡◌, ◌++◌, ◌∷◌, [], true, false, take, None, Some, ap, sym, ◌∙◌, rules}
use Rattle.std.specs.List.{list_any}
use Rattle.std.specs.Str.{bytes_eq}
use Rattle.gx_model.specs.Database.{place_of}
use Rattle.gx_target.proofs.PlaceFacts.{listed_unknown, listed_twice, listed_more}
use Rattle.gx_target.proofs.places.distinct_places.Goals as goal

pub returns-in_default : goal.returns-in_default
returns-in_default c =
    let none : place_of c.args.columns.now c.index-names-i.result ≡ None = ap (place_of c.args.columns.now) (sym c.as_slice.ensures) ∙ sym c.in_default.ensures in
    listed_unknown c.args.columns.now c.args.names.now c.loop-i.places.items c.loop-i.i c.index-names-i.result c.index-names-i.result c.loop-i-test.true c.index-names-i.is c.loop-i.invariant none

pub returns-then-is_among : goal.returns-then-is_among
returns-then-is_among c =
    let found : place_of c.args.columns.now c.index-names-i.result ≡ Some c.in-Some.place = ap (place_of c.args.columns.now) (sym c.as_slice.ensures) ∙ sym c.in-Some.ensures in
    let name = c.as_slice-in-loop-i.ensures in
    let told = c.if-is_among.ensures in
    let twice : list_any (bytes_eq c.index-names-i.result) (take c.loop-i.i c.args.names.now) ≡ true = cc (name, told) in
    listed_twice c.args.columns.now c.args.names.now c.loop-i.places.items c.loop-i.i c.index-names-i.result c.index-names-i.result c.loop-i-test.true c.index-names-i.is c.loop-i.invariant c.in-Some.place found twice

pub loop-i-preserved : goal.loop-i-preserved
loop-i-preserved c =
    let found : place_of c.args.columns.now c.index-names-i.result ≡ Some c.in-Some.place = ap (place_of c.args.columns.now) (sym c.as_slice.ensures) ∙ sym c.in-Some.ensures in
    let name = c.as_slice-in-loop-i.ensures in
    let told = c.if-is_among.ensures in
    let new : list_any (bytes_eq c.index-names-i.result) (take c.loop-i.i c.args.names.now) ≡ false = cc (name, told) in
    let pushed : c.push.new.self.items ≡ c.loop-i.places.items ++ c.in-Some.place ∷ [] = search rules in
    listed_more c.args.columns.now c.args.names.now c.loop-i.places.items c.loop-i.i c.index-names-i.result c.index-names-i.result c.loop-i-test.true c.index-names-i.is c.loop-i.invariant c.in-Some.place found
    c.push.new.self.items new pushed
