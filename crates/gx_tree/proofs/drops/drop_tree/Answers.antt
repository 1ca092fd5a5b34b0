use Rattle.std.proofs.Common.{◌≡◌, ◌+◌, ◌∙◌, ◌∷◌, [], ℕ, List, sym, ap, subst, arith}
use Rattle.std.proofs.lemmas.Result.{on_ok_weaker, IfErr-weaker}
use Rattle.gx_pages.specs.Footprints.{KeepsPages}
use Rattle.gx_pages.proofs.Footprints.{cause_weaker, keeps_from}
use Rattle.gx_tree.specs.Dropping.{Gives}
use Rattle.gx_tree.specs.Trees.{footprint}
use Rattle.gx_tree.proofs.Dropped.{gives_same, tree_gives}
use Rattle.gx_tree.proofs.drops.drop_tree.Goals as goal

pub returns-clause-dropped : goal.returns-clause-dropped
returns-clause-dropped g c =
    on_ok_weaker c.give_pages.result (λ given tells tree free held.
    let old = c.args.pages.now in
    let mid = c.all_pages.new.pages in
    let all : c.as_slice.result.now ≡ footprint tree = c.as_slice.ensures.value ∙ c.in_ok-all.ensures.all tells tree held.held in
    let done = given tells free (subst (λ (l : List ℕ). Gives g.P.Pages mid c.args.kind l free) (sym all)
    (gives_same g.P.Pages old mid c.args.kind (footprint tree) free c.in_ok-all.ensures.map c.in_ok-all.ensures.count (tree_gives g.P.Pages old c.args.kind c.args.root tree free held))) in (
      done.0,
      keeps_from g.P.Pages old mid c.give_pages.new.pages (footprint tree) free [] done.0 c.in_ok-all.ensures.map c.in_ok-all.ensures.count
          (subst (λ (l : List ℕ). KeepsPages g.P.Pages mid c.give_pages.new.pages l free [] done.0) all done.1),
    ))
    c.give_pages.ensures.given

pub returns-clause-cause : goal.returns-clause-cause
returns-clause-cause g c =
    IfErr-weaker c.give_pages.result _ _ (λ error has.
    cause_weaker error (g.P.Pages.faults c.args.pages.now) (g.P.Pages.faults c.all_pages.new.pages) (g.P.Pages.faults c.give_pages.new.pages) (g.P.Pages.faults c.give_pages.new.pages)
    _ _ _ _ _ _ (let q = c.in_ok-all.ensures.quiet.faults in omega arith) (omega arith) (λ at expected found refused tells tree free held.
    refused tells free (subst (λ (l : List ℕ). Gives g.P.Pages c.all_pages.new.pages c.args.kind l free) (sym (c.as_slice.ensures.value ∙ c.in_ok-all.ensures.all tells tree held.held))
    (gives_same g.P.Pages c.args.pages.now c.all_pages.new.pages c.args.kind (footprint tree) free c.in_ok-all.ensures.map c.in_ok-all.ensures.count (tree_gives g.P.Pages c.args.pages.now c.args.kind c.args.root tree free held))))
    (λ n no. no) (λ m. m) has)
    c.give_pages.ensures.cause
