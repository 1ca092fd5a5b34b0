use Rattle.std.proofs.Common.{◌∷◌, [], ℕ, List, sym, subst}
use Rattle.gx_pages.specs.Footprints.{KeepsPages}
use Rattle.gx_gin_scan.specs.Gins.{HoldsGin}
use Rattle.gx_gin_scan.specs.Lists.{IsIndexOf}
use Rattle.gx_gin_scan.proofs.Empty.{no_lists, no_rows}
use Rattle.gx_gin_scan.proofs.gin.Gin.create.Goals as goal

pub returns-clause-made : goal.returns-clause-made
returns-clause-made g c = λ tells free list.
    let new = c.create.new.pages in
    let made = c.in_ok-entries.ensures.made tells free list in
    subst (λ (r : ℕ). (x : List ℕ) × HoldsGin g.P.Pages new r [] (r ∷ []) x × KeepsPages g.P.Pages c.args.pages.now new [] free (r ∷ []) x × IsIndexOf (g.C.GinClass.items_of c.args.class) [] []) (sym c.root-root.ensures)
    (made.0, no_lists g.P.Pages new c.in_ok-entries.entries.page made.0 made.1, made.2, no_rows (g.C.GinClass.items_of c.args.class))
