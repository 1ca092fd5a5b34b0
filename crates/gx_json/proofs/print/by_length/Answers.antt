use Rattle.std.proofs.Common.{◌≡◌, ◌≤◌, ℕ, List, map, take, length, IsPermutation, subst, sym, ap, ◌∙◌, arith, rules, Bor}
use Rattle.std.proofs.lemmas.List.{take_all}
use Rattle.std.proofs.lemmas.List.Sorted.{answers_always, IsNonDecreasingBy-from_sort, IsPermutation-map}
use Rattle.gx_json.specs.declared.document.Json.{Json}
use Rattle.gx_json.specs.Tree.{members_data}
use Rattle.gx_json.specs.Print.{entries_of, shorter_first}
use Rattle.gx_json.proofs.PrintLemmas.{entry_at, entries_at, sorted_by_length}
use Rattle.gx_json.proofs.print.by_length.Goals as goal

all_of : (ps : List (List ℕ × Json)) (rs : List (Bor (List ℕ × Json))) (i : ℕ) → map (λ r. r.now) rs ≡ take i ps → length ps ≤ i → map (λ r. r.now) rs ≡ ps
all_of ps rs i taken past = taken ∙ take_all i ps past

pub returns-clause-same : goal.returns-clause-same
returns-clause-same c =
    let all = all_of c.args.pairs.now c.loop-pair.order.items c.loop-pair.pair-index c.loop-pair.invariant (omega (arith, c.loop-pair-test.false)) in
    subst (λ ps. IsPermutation ps (map (λ r. r.now) c.sort_by_key.new.self.items)) all (IsPermutation-map (λ r. r.now) _ _ c.sort_by_key.ensures.permutation)

pub returns-clause-sorted : goal.returns-clause-sorted
returns-clause-sorted c =
    let key : Bor (List ℕ × Json) → ℕ = λ r. length r.now.0 in
    let old = c.loop-pair.order.items in
    let new = c.sort_by_key.new.self.items in
    let all = all_of c.args.pairs.now old c.loop-pair.pair-index c.loop-pair.invariant (omega (arith, c.loop-pair-test.false)) in
    let keys = answers_always _ _ _ (λ f a r next called. search rules) in
    let up = IsNonDecreasingBy-from_sort key new (c.in_ok-sort_by_key.ensures.sorted key keys) in
    entries_at new
    ∙ sorted_by_length entry_at old new (c.sort_by_key.ensures.stable key keys) up
    ∙ ap shorter_first (sym (entries_at old) ∙ ap (λ ps. entries_of (members_data ps)) all)
