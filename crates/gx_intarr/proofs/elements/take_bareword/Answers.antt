-- Nothing is left, or NULL.
use Rattle.std.proofs.Common.{rules, arith}
use Rattle.gx_intarr.specs.Texts.{IsNullWord}
use Rattle.gx_formula.proofs.ReadLemmas.{no_length}
use Rattle.gx_intarr.proofs.ElementLemmas.{no_run, bareword_only}
use Rattle.gx_intarr.proofs.elements.take_bareword.Goals.{then-is_empty-via-then-is_empty, then-is_empty-via-else-is_empty+then-eq_ignore_ascii_case}
use Rattle.gx_intarr.proofs.elements.take_bareword.Goals as goal

pub returns-then-is_empty : goal.returns-then-is_empty
returns-then-is_empty c =
    bareword_only c.args.bytes.now c.requires (no_run c.plain_length.result c.args.bytes.now c.split_at.result.0.now c.trimmed-core.result.now c.split_at.ensures.front c.trimmed-core.ensures c.plain_length.ensures.run c.plain_length.ensures.stops
    (λ some full. elim c.then-is_empty.branch [
      | then-is_empty-via-then-is_empty w ↦ omega (arith, some, no_length _ w.if-is_empty.ensures)
      | then-is_empty-via-else-is_empty+then-eq_ignore_ascii_case w ↦ full (let null : IsNullWord c.trimmed-core.result.now = search rules in null)
    ]))
