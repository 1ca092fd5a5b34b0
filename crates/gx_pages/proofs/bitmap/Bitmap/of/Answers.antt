use Rattle.std.proofs.Common.{◌≡◌, ℕ, List, sym, subst, rules}
use Rattle.std.proofs.lemmas.Fn.{always_returns_same}
use Rattle.std.proofs.lemmas.List.Sorted.{IsNonDecreasingBy-from_sort}
use Rattle.std.specs.List.Sorted.{IsNonDecreasingBy}
use Rattle.gx_pages.specs.declared.row.RowRef.{RowRef}
use Rattle.gx_pages.specs.Rows.{HasTwice}
use Rattle.gx_pages.proofs.Sorting.{twice_moved}
use Rattle.gx_pages.proofs.bitmap.Bitmap.of.Goals as goal

pub are_rising-requires : goal.are_rising-requires
are_rising-requires c =
    let number : RowRef → ℕ = λ row. row.number in
    let computes = always_returns_same _ (λ a r. r ≡ a.0.now.number) _ (λ a r q k. search rules) in
    let up = IsNonDecreasingBy-from_sort number c.sort_unstable_by_key.new.self.items (c.sort_unstable_by_key.ensures.sorted number computes) in
    subst (λ (l : List RowRef). IsNonDecreasingBy number l) (sym c.as_slice.ensures.value) up

pub returns-then-not-are_rising-clause-none : goal.returns-then-not-are_rising-clause-none
returns-then-not-are_rising-clause-none c =
    let sorted = c.sort_unstable_by_key.new.self.items in
    let twice : HasTwice sorted = subst (λ (l : List RowRef). HasTwice l) c.as_slice.ensures.value c.if-not-are_rising.ensures in
    twice_moved c.args.rows.items sorted c.sort_unstable_by_key.ensures.permutation twice
