-- A run of another length is no label.
use Rattle.std.proofs.Common.{arith}
use Rattle.gx_ltree.proofs.LabelLemmas.{no_run}
use Rattle.gx_ltree.proofs.label.take_label.Goals.{then-length-eq0-via-then-length-eq0, then-length-eq0-via-else-length-eq0+then-length-gt-LONGEST_LABEL}
use Rattle.gx_ltree.proofs.label.take_label.Goals as goal

pub returns-then-length-eq0 : goal.returns-then-length-eq0
returns-then-length-eq0 c =
    no_run c.run_length-length.result c.args.text.now c.run_length-length.ensures.within c.run_length-length.ensures.run c.run_length-length.ensures.stops
    (λ some most. elim c.then-length-eq0.branch [
      | then-length-eq0-via-then-length-eq0 w ↦ omega (arith, w.if-length-eq0.true)
      | then-length-eq0-via-else-length-eq0+then-length-gt-LONGEST_LABEL w ↦ omega (arith, w.if-length-gt-LONGEST_LABEL.true)
    ])
