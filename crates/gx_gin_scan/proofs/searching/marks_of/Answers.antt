use Rattle.std.proofs.Common.{◌≡◌, ◌++◌, ◌∷◌, [], Bool, List, get_or, take, sym, ◌∙◌, ap}
use Rattle.gx_pages.specs.declared.row.RowRef.{RowRef}
use Rattle.gx_gin_scan.specs.Searches.{has, marks}
use Rattle.gx_gin_scan.proofs.Walked.{has_result, marks_next}
use Rattle.gx_gin_scan.proofs.searching.marks_of.Goals as goal

pub loop-list-preserved : goal.loop-list-preserved
loop-list-preserved c =
    let lists = c.args.lists.now in
    let i = c.loop-list.list-index in
    let list = c.list-item.result in
    let mark : c.has.result ≡ has (get_or lists i list) c.args.number = has_result c.has.result list c.args.number c.has.ensures ∙ ap (λ (l : List RowRef). has l c.args.number) c.list-item.is in
    c.in_ok-push.ensures.items ∙ ap (λ (l : List Bool). l ++ c.has.result ∷ []) c.loop-list.invariant ∙ ap (λ (b : Bool). marks (take i lists) c.args.number ++ b ∷ []) mark
    ∙ sym (marks_next lists i c.args.number list c.loop-list-test.true)
