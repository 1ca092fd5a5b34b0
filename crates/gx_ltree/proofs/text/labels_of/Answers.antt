-- What the reader knows where it stops, and where it goes on.
use Rattle.std.proofs.Common.{is_ok, ◌∙◌, sym, ap, arith}
use Rattle.gx_ltree.proofs.TextLemmas.{ends_at, broken_at, too_many_at, spelled_at}
use Rattle.gx_ltree.proofs.ListSteps.{on_ok, empty_after, more_after}
use Rattle.gx_ltree.proofs.Progress.{reads_more}
use Rattle.gx_ltree.proofs.text.labels_of.Goals as goal

pub returns-in_default : goal.returns-in_default
returns-in_default c =
    ends_at c.labels.path c.args.text.now c.labels.rest.now c.requires c.labels.invariant.parts c.labels.invariant.each c.labels.invariant.most (rw c.in_default.is at c.take_label.ensures)

pub returns-then-count-eq-MOST_LABELS : goal.returns-then-count-eq-MOST_LABELS
returns-then-count-eq-MOST_LABELS c =
    too_many_at c.labels.path c.args.text.now c.labels.rest.now c.in-Some.label.now c.in-Some.after.now c.labels.invariant.parts c.labels.invariant.each (omega (arith, c.count.ensures, c.if-count-eq-MOST_LABELS.true)) c.in-Some.ensures

pub returns-then-is_empty : goal.returns-then-is_empty
returns-then-is_empty c =
    let pushed = on_ok c.push.result _ (sym c.map_err.ensures.variant ∙ ap is_ok c.in_ok-map_err.was) c.push.ensures.ok in
    rw pushed (spelled_at c.labels.path c.args.text.now c.labels.rest.now c.in-Some.label.now c.in-Some.after.now c.labels.invariant.parts c.labels.invariant.each (omega (arith, c.labels.invariant.most, c.count.ensures, c.if-count-eq-MOST_LABELS.false)) c.in-Some.ensures (empty_after _ c.if-is_empty.ensures))

pub returns-in_default-behind_byte : goal.returns-in_default-behind_byte
returns-in_default-behind_byte c =
    broken_at c.labels.path c.args.text.now c.labels.rest.now c.in-Some.label.now c.in-Some.after.now c.requires c.labels.invariant.parts c.labels.invariant.each (omega (arith, c.labels.invariant.most, c.count.ensures, c.if-count-eq-MOST_LABELS.false)) c.in-Some.ensures (more_after _ c.if-is_empty.ensures) (rw c.in_default-behind_byte.is at c.behind_byte.ensures)

pub labels-preserved : goal.labels-preserved
labels-preserved c =
    let pushed = on_ok c.push.result _ (sym c.map_err.ensures.variant ∙ ap is_ok c.in_ok-map_err.was) c.push.ensures.ok in
    rw pushed (reads_more c.args.text.now c.labels.path c.labels.rest.now c.in-Some.label.now c.in-Some.after.now c.in-Some-behind_byte.more.now c.labels.invariant c.in-Some.ensures (λ e. omega (arith, e, c.count.ensures, c.if-count-eq-MOST_LABELS.false)) c.in-Some-behind_byte.ensures)
