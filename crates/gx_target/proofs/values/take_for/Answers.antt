-- A place without a value, and one with it.
use Rattle.std.proofs.Common.{◌≡◌, ◌<◌, ◌≤◌, length, get_or, option_map, sym, ap, ◌∙◌, arith, rules}
use Rattle.gx_value.specs.Values.{datum_of, row_of}
use Rattle.gx_target.proofs.ValueFacts.{no_value, value_taken, others_stay, value_beyond}
use Rattle.gx_target.proofs.values.take_for.Goals as goal

pub returns-in_err-i-clause-value : goal.returns-in_err-i-clause-value
returns-in_err-i-clause-value c = rw c.from_residual.ensures (sym (no_value c.args.place c.args.places.now (row_of c.args.values.now.items) (sym c.in_err-i.ensures)))

pub returns-then-i-len-clause-value : goal.returns-then-i-len-clause-value
returns-then-i-len-clause-value c =
    let test = c.if-i-len.true in
    let len = c.len.ensures in
    let below : c.in_ok-i.i < length c.args.values.now.items = omega (arith, c.args.values.now.ok.0) in
    let is : c.index_mut.result.now ≡ get_or c.args.values.now.items c.in_ok-i.i c.index_mut.result.now = search (rules, c.index_mut.ensures.value) in
    ap (option_map datum_of) c.take.ensures.value ∙ value_taken c.args.place c.args.places.now c.args.values.now.items c.in_ok-i.i (sym c.in_ok-i.ensures) c.index_mut.result.now below is

pub returns-then-i-len-clause-others : goal.returns-then-i-len-clause-others
returns-then-i-len-clause-others c = others_stay c.args.place c.args.places.now c.args.values.now.items c.in_ok-i.i (sym c.in_ok-i.ensures) c.take.new.self

pub returns-else-i-len-clause-value : goal.returns-else-i-len-clause-value
returns-else-i-len-clause-value c =
    let test = c.if-i-len.false in
    let len = c.len.ensures in
    let above : length c.args.values.now.items ≤ c.in_ok-i.i = omega (arith, c.args.values.now.ok.0) in
    value_beyond c.args.place c.args.places.now c.args.values.now.items c.in_ok-i.i (sym c.in_ok-i.ensures) above
