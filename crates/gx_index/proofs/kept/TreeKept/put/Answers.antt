use Rattle.std.proofs.Common.{[], ◌∷◌, ◌++◌, subst}
use Rattle.std.proofs.lemmas.Result.{on_ok_weaker}
use Rattle.gx_value.specs.Values.{Datum}
use Rattle.gx_index.proofs.KeyRows.{Kept}
use Rattle.gx_index.proofs.kept.TreeKept.put.Goals as goal

pub returns-clause-put : goal.returns-clause-put
returns-clause-put g c =
    on_ok_weaker c.put_key.result (λ put tells rows feet free kept below.
    let p = put tells rows feet free kept below in
    let now = λ (d : Datum). Kept g.P.Pages g.C.GistClass c.args.self.now.class g.C.KeyClass.datum c.put_key.new.pages c.args.self.now.root (rows ++ (c.args.row, d) ∷ []) p.0 p.1 in
    (p.0, p.1, subst now c.in-Some.ensures.same p.2, p.3)) c.put_key.ensures.put

pub returns-clause-heap : goal.returns-clause-heap
returns-clause-heap g c tells rows feet free kept below = c.put_key.ensures.heap tells rows feet free kept
