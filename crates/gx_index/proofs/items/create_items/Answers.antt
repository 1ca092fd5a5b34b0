use Rattle.std.proofs.Common.{[], refl}
use Rattle.std.proofs.lemmas.Result.{IfOk-weaker}
use Rattle.gx_index.proofs.items.create_items.Goals as goal

pub returns-clause-made : goal.returns-clause-made
returns-clause-made g c =
    IfOk-weaker c.create.result _ _ (λ made is tells free list.
    let done = is tells free list in (
      done.0,
      record {
        held = record { values = []; are = refl; lists = []; held = done.1.held; index = done.3 };
        frees = done.1.frees;
        apart = done.1.apart;
      },
      done.2,
    )) c.create.ensures.made
