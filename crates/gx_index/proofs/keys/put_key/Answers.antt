use Rattle.std.proofs.Common.{List, ◌∷◌, ℕ, sym, subst}
use Rattle.std.specs.Prelude.{IsPermutation}
use Rattle.std.proofs.lemmas.Result.{on_ok_weaker}
use Rattle.gx_pages.specs.Footprints.{KeepsPages}
use Rattle.gx_gist_tree.specs.OnPages.{entries_of, footprint}
use Rattle.gx_index.proofs.KeyRows.{tree_of, is_new, with_row}
use Rattle.gx_index.proofs.keys.put_key.Goals as goal

pub returns-clause-put : goal.returns-clause-put
returns-clause-put g c =
    on_ok_weaker c.insert.result (λ inserted tells rows feet free kept below.
    let class = c.args.tree.now.class in
    let tree = tree_of g.P.Pages g.C.GistClass class g.C.KeyClass.datum kept in
    let put = inserted tells kept.held.tree free tree (is_new g.P.Pages g.C.GistClass class g.C.KeyClass.datum kept c.args.row below) in
    let permuted = subst (λ key. IsPermutation ((c.args.row, key) ∷ entries_of kept.held.tree) (entries_of put.0)) c.in-Ok.ensures put.3 in (
      footprint put.0,
      put.1,
      with_row g.P.Pages g.C.GistClass class g.C.KeyClass.datum kept c.args.row c.args.value.now below c.requires.value c.insert.new.pages put.0 put.1 put.2 permuted,
      subst (λ (f : List ℕ). KeepsPages g.P.Pages c.args.pages.now c.insert.new.pages f free (footprint put.0) put.1) (sym kept.held.stand) put.5,
    )) c.insert.ensures.inserted
