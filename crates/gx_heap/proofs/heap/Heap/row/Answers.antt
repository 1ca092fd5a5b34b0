use Rattle.std.proofs.Common.{◌∙◌, refl, ap, arith}
use Rattle.std.proofs.lemmas.Result.{err_from_is_err_and}
use Rattle.gx_words.specs.PageMap.{PageMap}
use Rattle.gx_pages.proofs.Footprints.{cause_weaker}
use Rattle.gx_chain.proofs.Links.{broken_cause}
use Rattle.gx_heap.proofs.Finds.{heap_same}
use Rattle.gx_heap.proofs.heap.Heap.row.Goals as goal

pub returns-in_err-slots-clause-cause : goal.returns-in_err-slots-clause-cause
returns-in_err-slots-clause-cause g c =
    let p = err_from_is_err_and c.from_residual.result c.from_residual.ensures.1 in
    rw (p.1, p.2)
    (cause_weaker c.in_err-slots.field-0.0 (g.P.Pages.faults c.args.pages.now) (g.P.Pages.faults c.args.pages.now) (g.P.Pages.faults c.page_of.new.pages) (g.P.Pages.faults c.page_of.new.pages)
    _ _ _ _ _ _ (omega arith) (omega arith)
    (λ at expected found broken tells rows feet free held is. broken tells rows feet free held (c.args.at, is, refl))
    (λ n none. absurd none) (λ none. absurd none) c.in_err-slots.ensures.cause)

pub returns-in_err-row_in-clause-cause : goal.returns-in_err-row_in-clause-cause
returns-in_err-row_in-clause-cause g c =
    let p = err_from_is_err_and c.from_residual-in_err-row_in.result c.from_residual-in_err-row_in.ensures.1 in
    let map = c.in_ok-slots.ensures.map in
    rw (p.1, p.2)
    (broken_cause c.in_err-row_in.field-0.0 c.args.at.page (g.P.Pages.faults c.args.pages.now) (g.P.Pages.faults c.page_of.new.pages) _ _ _ c.in_err-row_in.ensures.broken
    (λ at expected what tells rows feet free held is.
    c.in_err-row_in.ensures.err tells (ap (λ (m : PageMap). m c.args.at.page) map ∙ c.in_ok-slots.ensures.bytes tells) rows feet free
    (heap_same g.P.Pages c.args.pages.now c.page_of.new.pages c.args.self.now rows feet free map c.in_ok-slots.ensures.count held) is))

pub returns-in-Ok-clause-found : goal.returns-in-Ok-clause-found
returns-in-Ok-clause-found g c = λ tells rows bytes feet free held is.
    let map = c.in_ok-slots.ensures.map in
    c.in-Ok.ensures
    ∙ c.in_ok-row_in.ensures.found tells (ap (λ (m : PageMap). m c.args.at.page) map ∙ c.in_ok-slots.ensures.bytes tells) rows bytes feet free
    (heap_same g.P.Pages c.args.pages.now c.page_of.new.pages c.args.self.now rows feet free map c.in_ok-slots.ensures.count held) is
