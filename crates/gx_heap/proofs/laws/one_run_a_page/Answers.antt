use Rattle.std.proofs.Common.{ℕ, List, length, sym, ◌∙◌, ap, subst}
use Rattle.std.specs.List.{filter}
use Rattle.gx_pages.specs.Rows.{IsRising}
use Rattle.gx_heap.specs.Heaps.{Row, AreRows, is_on, refs}
use Rattle.gx_heap.proofs.Turns.{one_run}
use Rattle.gx_heap.proofs.laws.one_run_a_page.Goals as goal

pub returns : goal.returns
returns g c = λ pages heap rows feet free some held rising are.
    one_run held.links held.held.held.apart (subst (λ (l : List Row). IsRising (refs l)) held.spelled held.rising) some rising (subst (λ (l : List Row). AreRows some l) held.spelled are)
    ∙ ap (λ (l : List ℕ). length (filter (λ page. is_on page some) l)) (sym held.stand)
