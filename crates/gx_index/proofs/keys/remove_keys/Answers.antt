use Rattle.std.proofs.Common.{List, ℕ, sym, subst}
use Rattle.std.proofs.lemmas.Result.{on_ok_weaker}
use Rattle.gx_pages.specs.Footprints.{KeepsPages}
use Rattle.gx_index.proofs.KeyRows.{tree_of, without_rows}
use Rattle.gx_index.proofs.keys.remove_keys.Goals as goal

pub returns-clause-removed : goal.returns-clause-removed
returns-clause-removed g c =
    on_ok_weaker c.remove_rows.result (λ removed tells rows feet free kept.
    let class = c.args.tree.now.class in
    let later = removed tells kept.held.tree free (tree_of g.P.Pages g.C.GistClass class g.C.KeyClass.datum kept) in (
      without_rows g.P.Pages g.C.GistClass class g.C.KeyClass.datum kept c.args.gone.now c.remove_rows.new.pages later.0 later.1 later.2 later.4,
      subst (λ (f : List ℕ). KeepsPages g.P.Pages c.args.pages.now c.remove_rows.new.pages f free f free) (sym kept.held.stand) later.5,
    )) c.remove_rows.ensures.removed
