use Rattle.std.proofs.Common.{◌≡◌, List, [], ℕ, refl}
use Rattle.gx_gin_entry.proofs.tree.EntryTree.create.Goals as goal

pub returns-clause-made : goal.returns-clause-made
returns-clause-made g c = λ tells free list.
    let made = c.in_ok-page.ensures.made tells free list in (
      made.0,
      record {
        held = record { tree = (0, (c.in_ok-page.page, [])); held = made.1.held; stand = refl; spelled = refl; are = tt; rising = tt; keyed = record { list = []; spelled = refl; are = tt; rising = tt; from = tt; under = tt } };
        frees = made.1.frees;
        apart = made.1.apart;
      },
      made.2,
    )
