use Rattle.std.proofs.Common.{◌≡◌, ◌∙◌, List, refl, sym, subst, rules, true≢false}
use Rattle.std.proofs.lemmas.Fn.{always_returns_same}
use Rattle.gx_pages.specs.declared.row.RowRef.{RowRef}
use Rattle.gx_pages.specs.Rows.{HasNumber}
use Rattle.gx_pages.proofs.Sorting.{hit, miss}
use Rattle.gx_pages.proofs.bitmap.Bitmap.has.Goals as goal

pub returns-in-Ok : goal.returns-in-Ok
returns-in-Ok c =
    let number = c.args.number in
    let computes = always_returns_same _ (λ a r. r ≡ a.0.now.number) _ (λ a r q k. search rules) in
    let same = c.deref.ensures.value ∙ c.self.view_is in
    (λ _. subst (λ (l : List RowRef). HasNumber l number) same (hit c.deref.result.now number c.in-Ok.field-0 c.in-Ok.ensures.bound (c.in-Ok.ensures.position (λ row. row.number) computes)), λ _. refl)

pub returns-in-Err : goal.returns-in-Err
returns-in-Err c =
    let number = c.args.number in
    let computes = always_returns_same _ (λ a r. r ≡ a.0.now.number) _ (λ a r q k. search rules) in
    let same = c.deref.ensures.value ∙ c.self.view_is in (
      λ t. absurd (true≢false (sym t)),
      λ has. absurd (miss c.deref.result.now number c.in-Err.field-0 (rw c.deref.ensures.value c.self.invariant) (c.in-Err.ensures.position (λ row. row.number) computes)
          (subst (λ (l : List RowRef). HasNumber l number) (sym same) has)),
    )
