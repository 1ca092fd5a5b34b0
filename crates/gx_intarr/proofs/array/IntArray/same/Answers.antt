-- Elements that aren't told apart are the same.
use Rattle.std.proofs.Common.{sym, ◌∙◌}
use Rattle.std.proofs.lemmas.Bool.Decides.{Decides-int_eq}
use Rattle.std.proofs.lemmas.Slice.Eq.{slice_eq-Decides}
use Rattle.gx_intarr.proofs.array.IntArray.same.Goals as goal

pub returns : goal.returns
returns c =
    let same = slice_eq-Decides Decides-int_eq _ _ _ c.eq.ensures in
    (λ e. sym c.items.ensures ∙ same.0 e ∙ c.items-2.ensures, λ e. same.1 (c.items.ensures ∙ e ∙ sym c.items-2.ensures))
