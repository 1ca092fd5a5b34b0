-- What the reader knows where it stops, and where it goes on.
use Rattle.std.proofs.Common.{is_ok, ◌∙◌, sym, ap, true≢false}
use Rattle.gx_intarr.proofs.RunLemmas.{on_ok}
use Rattle.gx_intarr.proofs.TextLemmas.{no_element, broken, ends, reads_more}
use Rattle.gx_intarr.proofs.texts.elements_of.Goals as goal

pub returns-in_default-found : goal.returns-in_default-found
returns-in_default-found c = no_element c.args.text.now c.elements.rest.now c.elements.texts c.elements.invariant (rw c.in_default-found.is at c.in-Ok.ensures)

pub returns-then-is_end : goal.returns-then-is_end
returns-then-is_end c =
    let takes = rw c.in-Some.is at c.in-Ok.ensures in
    let pushed = on_ok c.push.result _ (sym c.map_err.ensures.variant ∙ ap is_ok c.in_ok-map_err.was) c.push.ensures.ok in
    ends c.args.text.now c.elements.rest.now c.in-Some.element c.in-Some.after.now c.elements.texts c.push.new.self c.elements.invariant takes (c.is_end.ensures.0 c.if-is_end.true) pushed

pub returns-in_default-behind_byte : goal.returns-in_default-behind_byte
returns-in_default-behind_byte c =
    let takes = rw c.in-Some.is at c.in-Ok.ensures in
    broken c.args.text.now c.elements.rest.now c.in-Some.element c.in-Some.after.now c.elements.texts c.elements.invariant takes (λ e. true≢false (sym (c.is_end.ensures.1 e) ∙ c.if-is_end.false)) c.in_default-behind_byte.ensures

pub elements-preserved : goal.elements-preserved
elements-preserved c =
    let takes = rw c.in-Some.is at c.in-Ok.ensures in
    let pushed = on_ok c.push.result _ (sym c.map_err.ensures.variant ∙ ap is_ok c.in_ok-map_err.was) c.push.ensures.ok in
    reads_more c.args.text.now c.elements.rest.now c.in-Some.element c.in-Some.after.now c.in-Some-behind_byte.more.now c.elements.texts c.push.new.self c.elements.invariant takes c.in-Some-behind_byte.ensures pushed
