use Rattle.std.proofs.Common.{List, sym, ◌∙◌, ap}
use Rattle.gx_chain.specs.Chains.{Link, pages_of}
use Rattle.gx_heap.specs.Heaps.{chain_of, rows_of}
use Rattle.gx_heap.proofs.laws.one_heap.Goals as goal

pub returns : goal.returns
returns g c = λ pages heap other rows others feet free more rest same held another.
    let one = c.one_chain.ensures (g.P.Pages.map pages) (g.P.Pages.count pages) 2 (chain_of heap) (chain_of other) held.links another.links same held.held.held another.held.held in
    (held.spelled ∙ ap (λ (l : List Link). rows_of l) one ∙ sym another.spelled, held.stand ∙ ap (λ (l : List Link). pages_of l) one ∙ sym another.stand)
