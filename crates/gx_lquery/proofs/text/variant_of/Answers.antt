-- What stands behind the label is no list of marks.
use Rattle.std.proofs.Common.{sym, true≢false}
use Rattle.gx_lquery.proofs.TextLemmas.{no_marks}
use Rattle.gx_lquery.proofs.text.variant_of.Goals as goal

pub returns-then-not-are_marks : goal.returns-then-not-are_marks
returns-then-not-are_marks c =
    no_marks c.args.text.now c.in-Some.label.now c.in-Some.marks.now c.in-Some.ensures (λ all. true≢false (sym (c.if-not-are_marks.ensures.1 all)))
