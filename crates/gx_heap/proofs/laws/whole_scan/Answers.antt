use Rattle.std.proofs.Common.{[], sym, ◌∙◌}
use Rattle.gx_heap.specs.Heaps.{rows_in}
use Rattle.gx_heap.proofs.Entries.{rows_in_pages}
use Rattle.gx_heap.proofs.laws.whole_scan.Goals as goal

pub returns : goal.returns
returns g c = λ pages heap rows feet free held.
    (λ i. rows_in (held.stand i) (held.spelled i)) ∙ rows_in_pages [] held.links held.held.held.apart ∙ sym held.spelled
