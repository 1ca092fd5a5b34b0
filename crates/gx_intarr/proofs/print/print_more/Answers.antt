-- The closing brace behind all numbers.
use Rattle.std.proofs.Common.{◌≡◌, List, ℕ, subst, OnOk}
use Rattle.gx_intarr.proofs.PrintLemmas.{closed_end}
use Rattle.gx_intarr.proofs.print.print_more.Goals as goal

pub returns : goal.returns
returns c =
    let P : List ℕ → Type 0 = λ t. OnOk c.push-2.result (c.push-2.new.self ≡ t) in
    subst P (closed_end c.loop-number.to c.args.to.now c.args.items.now c.loop-number.number-index c.loop-number-test.false c.loop-number.invariant) c.push-2.ensures.ok
