-- One item more, and the row at the path's end.
use Rattle.std.proofs.Common.{◌++◌, ◌∷◌, [], List, Bool, take, sym, ap, ◌∙◌, subst}
use Rattle.std.proofs.lemmas.List.{take_more, take_all}
use Rattle.gx_lquery.specs.declared.query.LqueryItem.{LqueryItem}
use Rattle.gx_lquery.specs.Places.{IsNextRow}
use Rattle.gx_lquery.proofs.Rows.{IsRowOf, next_is_row, row_tells}
use Rattle.gx_lquery.proofs.query.Lquery.matches.Goals as goal

pub loop-item-preserved : goal.loop-item-preserved
loop-item-preserved c =
    let P : List Bool → Type 0 = λ row. IsNextRow c.item-item.result c.args.path.now row c.in_ok-row-2.row.items in
    let step = next_is_row (take c.loop-item.item-index c.as_slice-items.result.now) c.item-item.result c.args.path.now c.loop-item.row.items c.in_ok-row-2.row.items c.loop-item.invariant (subst P c.as_slice.ensures.value c.in_ok-row-2.ensures) in
    let more = take_more c.as_slice-items.result.now c.loop-item.item-index c.item-item.result c.loop-item-test.true ∙ ap (λ (x : LqueryItem). take c.loop-item.item-index c.as_slice-items.result.now ++ x ∷ []) (sym c.item-item.is) in
    let Q : List LqueryItem → Type 0 = λ items. IsRowOf items c.args.path.now c.in_ok-row-2.row.items in
    subst Q (sym more) step

pub returns : goal.returns
returns c =
    let all = take_all c.loop-item.item-index c.as_slice-items.result.now c.loop-item-test.false ∙ c.as_slice-items.ensures in
    let Q : List LqueryItem → Type 0 = λ items. IsRowOf items c.args.path.now c.loop-item.row.items in
    row_tells c.args.self.now.items c.args.path.now c.loop-item.row.items c.count-2.result c.index.result.now (subst Q all c.loop-item.invariant) c.count-2.ensures c.index.ensures
