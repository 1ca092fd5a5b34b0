use Rattle.std.proofs.Common.{List, [], ℕ, sym, subst}
use Rattle.std.proofs.lemmas.Result.{on_ok_weaker}
use Rattle.gx_pages.specs.Footprints.{KeepsPages}
use Rattle.gx_index.proofs.KeyRows.{tree_of}
use Rattle.gx_index.proofs.keys.drop_keys.Goals as goal

pub returns-clause-dropped : goal.returns-clause-dropped
returns-clause-dropped g c =
    on_ok_weaker c.drop_all.result (λ dropped tells rows feet free kept.
    let done = dropped tells kept.held.tree free (tree_of g.P.Pages g.C.GistClass c.args.tree.class g.C.KeyClass.datum kept) in
    (done.0, subst (λ (f : List ℕ). KeepsPages g.P.Pages c.args.pages.now c.drop_all.new.pages f free [] done.0) (sym kept.held.stand) done.1)) c.drop_all.ensures.dropped
