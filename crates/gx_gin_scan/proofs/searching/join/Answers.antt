use Rattle.std.proofs.Common.{◌++◌, List, take, sym, ◌∙◌, ap}
use Rattle.gx_pages.specs.declared.row.RowRef.{RowRef}
use Rattle.gx_gin_scan.specs.Searches.{joined}
use Rattle.gx_gin_scan.proofs.Walked.{joined_next}
use Rattle.gx_gin_scan.proofs.searching.join.Goals as goal

pub loop-list-preserved : goal.loop-list-preserved
loop-list-preserved c =
    let lists = c.args.lists.now in
    let i = c.loop-list.list-index in
    let list = c.list-item.result in
    c.in_ok-push_rows.ensures.ok ∙ ap (λ (l : List RowRef). l ++ list) c.loop-list.invariant ∙ ap (λ (l : List RowRef). joined (take i lists) ++ l) c.list-item.is
    ∙ sym (joined_next lists i list c.loop-list-test.true)
