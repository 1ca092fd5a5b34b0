use Rattle.std.proofs.Common.{List, ℕ, sym, subst}
use Rattle.gx_pages.specs.Footprints.{KeepsPages}
use Rattle.gx_chain.specs.declared.chain.Chain.{Chain}
use Rattle.gx_chain.specs.Chains.{HoldsBeside}
use Rattle.std.proofs.Common.{[]}
use Rattle.gx_heap.proofs.heap.Heap.drop_all.Goals as goal

pub returns-clause-dropped : goal.returns-clause-dropped
returns-clause-dropped g c = λ tells rows feet free held.
    let dropped = c.in_ok-drop_all.ensures.dropped tells held.links free (subst (λ (k : Chain). HoldsBeside g.P.Pages c.args.pages.now 2 k held.links free) (sym c.to_chain-chain.ensures) held.held) in
    (dropped.0, subst (λ (l : List ℕ). KeepsPages g.P.Pages c.args.pages.now c.drop_all.new.pages l free [] dropped.0) (sym held.stand) dropped.1)
