use Rattle.std.proofs.Common.{◌++◌, ◌∙◌, List, ap, arith}
use Rattle.gx_pages.specs.declared.row.RowRef.{RowRef}
use Rattle.gx_gin_scan.specs.Searches.{joined}
use Rattle.gx_gin_scan.proofs.looking.with_empty.Goals as goal

pub returns-clause-rows : goal.returns-clause-rows
returns-clause-rows g c = λ tells lists feet held.
    c.in_ok-push_rows.ensures.ok ∙ ap (λ (l : List RowRef). l ++ c.in_ok-empty.empty) c.in_ok-rows.ensures.rows
    ∙ ap (λ (l : List RowRef). joined c.args.found.now ++ l) (c.in_ok-empty.ensures.rows tells lists feet held)

pub returns-clause-fetches : goal.returns-clause-fetches
returns-clause-fetches g c = λ tells lists feet held.
    let few = c.in_ok-empty.ensures.fetches tells lists feet held in
    omega (arith, few)
