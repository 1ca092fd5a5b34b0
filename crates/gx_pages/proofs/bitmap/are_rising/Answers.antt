use Rattle.std.proofs.Common.{◌≡◌, ℕ, ◌+◌, ◌-◌, get_or, subst, arith}
use Rattle.gx_pages.specs.declared.row.RowRef.{RowRef}
use Rattle.gx_pages.proofs.Sorting.{rising_climbs, twice_at}
use Rattle.gx_pages.proofs.bitmap.are_rising.Goals as goal

pub returns-then-rows-at : goal.returns-then-rows-at
returns-then-rows-at c =
    let rows = c.args.rows.now in
    let at = c.loop-at.at in
    let none : RowRef = record { number = 0; page = 0; slot = 0 } in
    let behind : at ≡ at - 1 + 1 = omega arith in
    twice_at rows (at - 1) none (omega arith) (subst (λ (k : ℕ). (get_or rows (at - 1) none).number ≡ (get_or rows k none).number) behind c.if-rows-at.true)

pub returns : goal.returns
returns c = rising_climbs c.args.rows.now (λ k d within. c.loop-at.invariant k d (omega (arith, within, c.loop-at-test.false)))
