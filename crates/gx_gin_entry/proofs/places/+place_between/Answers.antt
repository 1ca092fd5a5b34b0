use Rattle.std.proofs.Common.{◌≡◌, ◌+◌, ◌-◌, ◌/◌, ◌<◌, ◌≤◌, ℕ, List, length, take, drop, sym, ◌∙◌, subst, arith}
use Rattle.std.proofs.lemmas.List.{length-take-le}
use Rattle.gx_tree.proofs.Lists.{at_place}
use Rattle.gx_gin_entry.proofs.Stops.{none_weaker, range_left, range_place, range_right, some_weaker, when_false, when_true}
use Rattle.gx_gin_entry.proofs.places.+place_between.Goals as goal

pub returns-then-rest-eq0-clause-place : goal.returns-then-rest-eq0-clause-place
returns-then-rest-eq0-clause-place t c = λ list listed range.
    let low = c.requires in
    let none = c.if-rest-eq0.true in
    range_place list c.args.key.now c.args.from c.args.end (omega (arith, low, none)) range

pub returns-in_default-clause-none : goal.returns-in_default-clause-none
returns-in_default-clause-none t c = λ list listed within.
    c.in_default.ensures.none list listed (let low = c.requires in let some = c.if-rest-eq0.false in omega (arith, low, within, some))

pub returns-then-before-clause-place : goal.returns-then-before-clause-place
returns-then-before-clause-place t c =
    let middle = c.args.from + (c.args.end - c.args.from) / 2 in
    some_weaker c.place_between.result _ _ (λ place finds list listed range.
    let below : middle < length list = (let within = range.within in let low = c.requires in let some = c.if-rest-eq0.false in omega (arith, within, low, some)) in
    let one = at_place list middle below in
    finds list listed (range_right list c.args.key.now listed.rising c.args.from middle c.args.end range below
    (when_true c.in-Some.before _ _ c.if-before.true
    (c.in-Some.ensures.before list (take middle list) (drop (middle + 1) list) one.item listed one.cut (sym (length-take-le middle list (omega (arith, below))))))))
    c.place_between.ensures.place

pub returns-clause-place : goal.returns-clause-place
returns-clause-place t c =
    let middle = c.args.from + (c.args.end - c.args.from) / 2 in
    some_weaker c.place_between-2.result _ _ (λ place finds list listed range.
    let below : middle < length list = (let within = range.within in let low = c.requires in let some = c.if-rest-eq0.false in omega (arith, within, low, some)) in
    let one = at_place list middle below in
    finds list listed (range_left list c.args.key.now listed.rising c.args.from middle c.args.end range below
    (when_false c.in-Some.before _ _ c.if-before.false
    (c.in-Some.ensures.before list (take middle list) (drop (middle + 1) list) one.item listed one.cut (sym (length-take-le middle list (omega (arith, below))))))))
    c.place_between-2.ensures.place

pub returns-clause-none : goal.returns-clause-none
returns-clause-none t c =
    none_weaker c.place_between-2.result _ _ (λ refused list listed within. refused list listed (let low = c.requires in omega (arith, low, within))) c.place_between-2.ensures.none
