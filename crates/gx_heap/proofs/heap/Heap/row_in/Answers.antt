use Rattle.std.proofs.Common.{◌≡◌, ℕ, List, Some, drop, sym, ◌∙◌, ap}
use Rattle.gx_heap.proofs.Finds.{row_found}
use Rattle.gx_heap.proofs.heap.Heap.row_in.Goals as goal

pub returns-in-Some-clause-found : goal.returns-in-Some-clause-found
returns-in-Some-clause-found g c = λ tells read rows bytes feet free held is.
    let there = row_found g.P.Pages c.args._pages.now c.args.self.now rows feet free held c.args.at bytes is c.args.slots.now c.page-page.ensures.fits read in
    let got = c.in-Some.ensures.some in
    let both : Some got.0 ≡ Some there.item = sym got.1 ∙ there.there in
    let same : got.0 ≡ there.item = (cc) in
    got.3 ∙ ap (λ (l : List ℕ). drop 8 l) same ∙ there.bytes_are

pub returns-in-None-clause-err : goal.returns-in-None-clause-err
returns-in-None-clause-err g c = λ tells read rows feet free held is.
    let there = row_found g.P.Pages c.args._pages.now c.args.self.now rows feet free held c.args.at is.0 is.1 c.args.slots.now c.page-page.ensures.fits read in
    c.in-None.ensures.none there.item there.there there.long there.number
