use Rattle.std.proofs.Common.{sym, ◌∙◌, true≢false}
use Rattle.std.proofs.lemmas.Bool.Decides.{Decides-eqb}
use Rattle.std.proofs.lemmas.Slice.Eq.{slice_eq-Decides}
use Rattle.gx_range.proofs.EncodingLemmas.{not_span}
use Rattle.gx_range.proofs.encoding.decoded.Goals as goal

pub returns-else-is_span : goal.returns-else-is_span
returns-else-is_span c =
    let same = slice_eq-Decides Decides-eqb _ _ _ c.eq.ensures in
    not_span c.args.kind c.in-Some.lower c.in-Some.upper c.args.bytes.now c.is_span.result c.in-Some.ensures.0 c.in-Some.ensures.1 c.in-Some.ensures.2 c.is_span.ensures c.if-is_span.false
    (λ e. true≢false (sym (same.1 (e ∙ sym c.as_slice.ensures)) ∙ c.if-eq.false))
