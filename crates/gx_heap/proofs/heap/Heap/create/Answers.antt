use Rattle.std.proofs.Common.{[], ◌∷◌, refl, arith}
use Rattle.gx_heap.proofs.Heaps.{held_bound}
use Rattle.gx_heap.proofs.heap.Heap.create.Goals as goal

pub returns-clause-made : goal.returns-clause-made
returns-clause-made g c = λ tells free list.
    let made = c.in_ok-chain.ensures.made tells free list in
    let one = c.in_ok-chain.ensures.one in (
      made.0,
      record {
        links = (c.in_ok-chain.chain.first, []) ∷ [];
        held = held_bound g.P.Pages c.create.new.pages 2 c.in_ok-chain.chain (record { first = c.in_ok-chain.chain.first; last = c.in_ok-chain.chain.last; pages = 1 }) ((c.in_ok-chain.chain.first, []) ∷ []) made.0
            refl refl (omega (arith, one.1)) made.1;
        stand = refl;
        spelled = refl;
        whole = tt;
        rising = tt;
        numbered = tt;
      },
      made.2,
    )
