use Rattle.std.proofs.Common.{◌≡◌, ◌∙◌, sym, subst, List, arith}
use Rattle.std.proofs.lemmas.Bool.{ltb-true}
use Rattle.std.proofs.lemmas.Bool.Decides.{nat_tests}
use Rattle.gx_pages.specs.declared.row.RowRef.{RowRef}
use Rattle.gx_pages.specs.Rows.{AreBelow}
use Rattle.gx_pages.proofs.Rising.{last_tells}
use Rattle.gx_pages.proofs.bitmap.Bitmap.is_below.Goals as goal

pub returns-in-len1-up : goal.returns-in-len1-up
returns-in-len1-up c =
    let same : c.as_slice.result.now ≡ c.args.self.now = c.as_slice.ensures.value ∙ c.self.view_is in
    let told = last_tells c.as_slice.result.now (record { number = 0; page = 0; slot = 0 }) c.args.number c.in-len1-up.len_at_least (rw c.as_slice.ensures.value c.self.invariant) in (
      λ t. subst (λ (l : List RowRef). AreBelow l c.args.number) same (told.0 (ltb-true _ _ t)),
      λ b. let at = told.1 (subst (λ (l : List RowRef). AreBelow l c.args.number) (sym same) b) in grind (arith, nat_tests, at),
    )
