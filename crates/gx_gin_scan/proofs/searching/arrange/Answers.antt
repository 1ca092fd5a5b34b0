use Rattle.std.proofs.Common.{◌≡◌, ℕ, List, sym, subst, rules}
use Rattle.std.proofs.lemmas.Fn.{always_returns_same}
use Rattle.std.proofs.lemmas.Result.{IfOk-weaker}
use Rattle.std.proofs.lemmas.List.Sorted.{Contains-permutation, IsNonDecreasingBy-from_sort, IsPermutation-sym}
use Rattle.std.specs.List.Sorted.{IsNonDecreasingBy, IsPermutation}
use Rattle.gx_pages.specs.declared.row.RowRef.{RowRef}
use Rattle.gx_gin_scan.proofs.Walked.{numbers_moved}
use Rattle.gx_gin_scan.proofs.searching.arrange.Goals as goal

pub first_of_each-requires : goal.first_of_each-requires
first_of_each-requires c =
    let number : RowRef → ℕ = λ row. row.number in
    let computes = always_returns_same _ (λ a r. r ≡ a.0.now.number) _ (λ a r q k. search rules) in
    let up = IsNonDecreasingBy-from_sort number c.sort_unstable_by_key.new.self.items (c.sort_unstable_by_key.ensures.sorted number computes) in
    subst (λ (l : List RowRef). IsNonDecreasingBy number l) (sym c.as_slice.ensures.value) up

pub returns-clause-numbers : goal.returns-clause-numbers
returns-clause-numbers c =
    let moved = subst (λ (l : List RowRef). IsPermutation c.args.rows.items l) (sym c.as_slice.ensures.value) c.sort_unstable_by_key.ensures.permutation in
    IfOk-weaker c.first_of_each.result _ _ (λ found same number.
    let across = numbers_moved c.args.rows.items c.as_slice.result.now number moved in
    (λ there. across.0 ((same number).0 there), λ there. (same number).1 (across.1 there)))
    c.first_of_each.ensures.numbers

pub returns-clause-rows : goal.returns-clause-rows
returns-clause-rows c =
    let moved = subst (λ (l : List RowRef). IsPermutation c.args.rows.items l) (sym c.as_slice.ensures.value) c.sort_unstable_by_key.ensures.permutation in
    IfOk-weaker c.first_of_each.result _ _ (λ found among row there.
    Contains-permutation c.as_slice.result.now c.args.rows.items row (IsPermutation-sym c.args.rows.items c.as_slice.result.now moved) (among row there))
    c.first_of_each.ensures.rows
