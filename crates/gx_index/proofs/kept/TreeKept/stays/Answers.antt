use Rattle.std.proofs.Common.{List, ◌++◌, ◌<◌, ℕ, sym, subst}
use Rattle.std.specs.List.{AllByRecursion}
use Rattle.gx_pages.specs.Frees.{IsApart}
use Rattle.gx_index.proofs.KeyRows.{tree_of, still}
use Rattle.gx_index.proofs.kept.TreeKept.stays.Goals as goal

pub returns-clause-below : goal.returns-clause-below
returns-clause-below g c rows map count feet h = subst (λ (f : List ℕ). AllByRecursion (λ page. page < count) f) (sym h.stand) h.held.below

pub returns-clause-stays : goal.returns-clause-stays
returns-clause-stays g c old new rows feet before free after rest kept keeps apart below =
    let class = c.args.self.now.class in
    let tree = tree_of g.P.Pages g.C.GistClass class g.C.KeyClass.datum kept in
    still g.P.Pages g.C.GistClass class g.C.KeyClass.datum kept new rest
    (c.tree_stays.ensures old new c.args.self.now.root kept.held.tree before free after rest tree keeps (subst (λ (f : List ℕ). IsApart (before ++ free ++ f)) kept.held.stand apart) below)
