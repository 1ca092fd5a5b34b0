use Rattle.std.proofs.Common.{ℕ, List, Some, sym, ◌∙◌, ap, subst}
use Rattle.gx_pages.proofs.Footprints.{keeps_none}
use Rattle.gx_gist_tree.specs.declared.change.Change.TheVariants.{Within}
use Rattle.gx_gist_tree.specs.declared.change.Arranged.{Arranged}
use Rattle.gx_gist_tree.specs.Insertion.{IsPut}
use Rattle.gx_gist_tree.proofs.PutPages.{written}
use Rattle.gx_gist_tree.proofs.putting.put_arranged.Goals as goal

pub returns-in-Same-clause-put : goal.returns-in-Same-clause-put
returns-in-Same-clause-put g c = λ tells free list out same.
    let old = c.args.pages.now in
    subst (λ (a : Arranged g.row.K.Denot). IsPut g.P.Pages old old c.args.page c.args.slots.now free a Within) (sym c.in-Same.is) (
      written (g.P.Pages.map old) c.args.page c.page-spelled.result.now c.args.slots.now c.requires.nonzero (same c.in-Same.is ∙ ap (λ (b : List ℕ). Some b) (sym c.page-spelled.ensures.spelled)) c.page-spelled.ensures.spelled c.page-spelled.ensures.fits,
      keeps_none g.P.Pages old _ free list,
    )
