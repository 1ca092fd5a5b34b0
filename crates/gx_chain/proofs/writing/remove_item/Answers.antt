use Rattle.std.proofs.Common.{None, not, ◌∙◌, ap, arith}
use Rattle.std.proofs.lemmas.Result.{err_from_is_err_and}
use Rattle.gx_pages.proofs.Footprints.{cause_weaker}
use Rattle.gx_chain.proofs.Links.{broken_cause}
use Rattle.gx_chain.proofs.Slotted.{changed, none_item, spot_read, spot_sound}
use Rattle.gx_chain.proofs.writing.remove_item.Goals as goal

pub returns-in_err-slots-clause-cause : goal.returns-in_err-slots-clause-cause
returns-in_err-slots-clause-cause g c =
    let p = err_from_is_err_and c.from_residual.result c.from_residual.ensures.1 in
    rw (p.1, p.2)
    (cause_weaker c.in_err-slots.field-0.0 (g.P.Pages.faults c.args.pages.now) (g.P.Pages.faults c.args.pages.now) (g.P.Pages.faults c.fetch_slots.new.pages) (g.P.Pages.faults c.fetch_slots.new.pages)
    _ _ _ _ _ _ (omega arith) (omega arith)
    (λ at expected found broken tells chain links front back old held same.
    spot_sound (g.P.Pages.map c.args.pages.now) (g.P.Pages.count c.args.pages.now) c.args.kind chain links front back c.args.page c.args.slot old
    (λ some below bytes is. broken some below tells bytes is) held same)
    (λ n no. absurd no) (λ no. absurd no) c.in_err-slots.ensures.cause)

pub returns-then-is_none-clause-cause : goal.returns-then-is_none-clause-cause
returns-then-is_none-clause-cause g c =
    broken_cause c.no_item.result c.args.page (g.P.Pages.faults c.args.pages.now) (g.P.Pages.faults c.fetch_slots.new.pages) _ _ _ c.no_item.ensures
    (λ at expected found tells chain links front back old held same.
    none_item c.item.result _ old c.item.ensures
    (spot_read (g.P.Pages.map c.args.pages.now) (g.P.Pages.count c.args.pages.now) c.args.kind chain links front back c.args.page c.args.slot old c.in_ok-slots.slots
    (c.in_ok-slots.ensures.link tells) held same)
    (c.is_none.ensures ∙ ap not c.if-is_none.true))

pub returns-clause-removed : goal.returns-clause-removed
returns-clause-removed g c = λ tells chain links free front back old held same.
    let all = changed g.P.Pages c.args.pages.now c.fetch_slots.new.pages c.put_slots.new.pages c.args.kind c.args.page c.args.slot c.in_ok-slots.slots c.remove.new.self None
    c.in_ok-slots.ensures.map c.in_ok-slots.ensures.count (c.in_ok-slots.ensures.link tells) c.remove.ensures (c.in_ok-put_slots.ensures.held tells) chain links free front back old held same in
    (all.before, all.behind, all.items, all.cut, all.held, all.next, all.entries, all.keeps)
