use Rattle.std.proofs.Common.{inr, refl, ◌∙◌, ap}
use Rattle.std.proofs.lemmas.Result.{err_from_is_err_and}
use Rattle.gx_slot.specs.Slots.{Slots}
use Rattle.gx_gist_tree.proofs.VisitFacts.{named_cause}
use Rattle.gx_gist_tree.proofs.StripFacts.{raw, raw_fits, raw_items, put_kept, same_kept}
use Rattle.gx_gist_tree.proofs.removal.strip_leaf.Goals as goal

pub returns-in_err-changed-clause-cause : goal.returns-in_err-changed-clause-cause
returns-in_err-changed-clause-cause g c =
    let p = err_from_is_err_and c.from_residual.result c.from_residual.ensures.1 in
    let bytes = g.C.GistClass.spelling c.args.class.now in
    rw (p.1, p.2)
    (named_cause c.in_err-changed.field-0.0 c.args.page _ _ _ _ _ (inr c.in_err-changed.ensures.cause)
    (λ broken tells node read. broken (raw bytes node.1) (raw_fits (g.C.GistClass.valid_key c.args.class.now) bytes node.1 read.sound.1) (ap (λ (s : Slots). s.items) read.is ∙ raw_items bytes node.1)))

pub returns-then-not-changed-clause-stripped : goal.returns-then-not-changed-clause-stripped
returns-then-not-changed-clause-stripped g c = λ tells node read.
    same_kept g.C.GistClass c.args.class.now (g.P.Pages.map c.args.pages.now) (g.P.Pages.count c.args.pages.now) c.args.rows.now node c.args.slots.now c.empty_slots.new.slots c.args.page read
    c.in_ok-changed.ensures.emptied c.in_ok-changed.ensures.rest (g.P.Pages.map c.args.pages.now) refl (c.in_ok-changed.ensures.same c.if-not-changed.true)

pub returns-clause-stripped : goal.returns-clause-stripped
returns-clause-stripped g c = λ tells node read.
    put_kept g.C.GistClass c.args.class.now (g.P.Pages.map c.args.pages.now) (g.P.Pages.count c.args.pages.now) c.args.rows.now node c.args.slots.now c.empty_slots.new.slots c.args.page read
    c.in_ok-changed.ensures.emptied c.in_ok-changed.ensures.rest (g.P.Pages.map c.put.new.self) c.page.result.now (c.in_ok-put.ensures.map tells) c.page.ensures.spelled c.page.ensures.fits
