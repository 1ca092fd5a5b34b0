use Rattle.std.proofs.Common.{◌++◌, List, ◌∙◌, ap}
use Rattle.gx_pages.specs.declared.row.RowRef.{RowRef}
use Rattle.gx_posting.proofs.PostingFacts.{one_spelled}
use Rattle.gx_gin_scan.proofs.postings.rows_of_list.Goals as goal

pub returns-in-Ok-true-clause-rows : goal.returns-in-Ok-true-clause-rows
returns-in-Ok-true-clause-rows c = λ rows spells.
    let read = c.in-Ok-true.ensures.read (cc) in
    read.2 ∙ ap (λ (l : List RowRef). l ++ read.0) c.new-found.ensures ∙ one_spelled c.args.list.now read.0 rows read.1 spells
