use Rattle.std.proofs.lemmas.Result.{on_ok_weaker}
use Rattle.gx_index.proofs.kept.TreeKept.remove.Goals as goal

pub returns-clause-removed : goal.returns-clause-removed
returns-clause-removed g c =
    on_ok_weaker c.remove_keys.result (λ removed tells rows feet free kept. let later = removed tells rows feet free kept in (feet, free, later.0, later.1)) c.remove_keys.ensures.removed
