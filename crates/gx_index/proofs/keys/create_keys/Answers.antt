use Rattle.std.proofs.lemmas.Result.{IfOk-weaker}
use Rattle.gx_index.proofs.KeyRows.{no_rows}
use Rattle.gx_index.proofs.keys.create_keys.Goals as goal

pub returns-clause-made : goal.returns-clause-made
returns-clause-made g c =
    IfOk-weaker c.create.result _ _ (λ tree made tells free frees. let m = made tells free frees in
    (m.0, no_rows g.P.Pages g.C.GistClass c.args.class g.C.KeyClass.datum c.create.new.pages tree.root m.0 m.1, m.2)) c.create.ensures.made
