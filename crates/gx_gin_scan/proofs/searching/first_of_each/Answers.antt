use Rattle.std.proofs.Common.{⊎_elim, get_or}
use Rattle.gx_pages.specs.declared.row.RowRef.{RowRef}
use Rattle.gx_gin_scan.proofs.Walked.{below_or, firsts_added, firsts_left}
use Rattle.gx_gin_scan.proofs.searching.first_of_each.Goals as goal

abbrev zero_row : RowRef
zero_row = record { number = 0; page = 0; slot = 0 }

pub loop-row-preserved : goal.loop-row-preserved
loop-row-preserved c =
    let rows = c.args.rows.now in
    let kept = c.loop-row.found in
    let later = c.push_later.new.to in
    let i = c.loop-row.row-index in
    ⊎_elim
    (λ all. firsts_added rows kept later i zero_row c.loop-row-test.true c.loop-row.invariant (c.in_ok-push_later.ensures.added all))
    (λ none. firsts_left rows kept later i zero_row c.loop-row-test.true c.loop-row.invariant c.requires none (c.in_ok-push_later.ensures.left none))
    (below_or kept (get_or rows i zero_row).number)
