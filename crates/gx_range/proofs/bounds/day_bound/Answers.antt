use Rattle.std.proofs.Common.{sym, ◌∙◌, true≢false}
use Rattle.std.proofs.lemmas.Bool.Decides.{Decides-eqb}
use Rattle.std.proofs.lemmas.Slice.Eq.{slice_eq-Decides}
use Rattle.gx_range.proofs.BoundLemmas.{day_fault}
use Rattle.gx_range.proofs.bounds.day_bound.Goals as goal

pub returns-in-Err : goal.returns-in-Err
returns-in-Err c =
    let same = slice_eq-Decides Decides-eqb _ _ _ c.eq.ensures in
    day_fault c.args.text.now c.in-Err.fault (λ e. true≢false (sym (same.1 (e ∙ sym c.as_slice.ensures)) ∙ c.if-eq.false)) c.in-Err.ensures
