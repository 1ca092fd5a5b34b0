-- A search by halving among rising keys.
use Rattle.std.proofs.Common.{◌≡◌, ℕ, zero, suc, Err, ◌+◌, ◌<◌, inl, inr, List, [], ◌∷◌, length, get_or, nat_cmp, Less, Equal, Greater, sym, ap, ◌∙◌, subst, arith}
use Rattle.std.specs.declared.cmp.Ordering.{Ordering}
use Rattle.std.specs.Cmp.Lexicographic.{slice_cmp}
use Rattle.std.specs.List.{HoldsAt}
use Rattle.std.specs.List.Sorted.{IsSortedBy, IsBinarySearchResult}
use Rattle.std.specs.Ordering.{is_lt, ordering_reverse}
use Rattle.std.proofs.lemmas.Bool.{cases_lt}
use Rattle.std.proofs.lemmas.Cmp.{nat_list_cmp_total, tied_itself}
use Rattle.std.proofs.lemmas.List.Sorted.{searchable_from_sorted}
use Rattle.gx_json.specs.declared.document.Json.{Json}
use Rattle.gx_json.specs.Tree.{members_data}
use Rattle.gx_json.specs.Valid.{IsRising}
use Rattle.gx_json.specs.Operators.{SomeMember}
use Rattle.gx_json.proofs.OperatorLemmas.{same_key}

-- how the key of a member compares to a key
abbrev pub compared : List ℕ → List ℕ × Json → Ordering
compared key p = slice_cmp nat_cmp p.0 key

-- a member at a place
there : (ps : List (List ℕ × Json)) (key : List ℕ) (at : ℕ) (d : List ℕ × Json) → at < length ps → (get_or ps at d).0 ≡ key → SomeMember key (λ _. Unit {0}) (members_data ps)
there [] key at d within is = absurd (omega arith)
there (p ∷ ps) key zero d within is = inl (is, tt)
there (p ∷ ps) key (suc at) d within is = inr (there ps key at d (omega arith) is)

pub hit : (ps : List (List ℕ × Json)) (key : List ℕ) (at : ℕ) → at < length ps → HoldsAt (λ p. compared key p ≡ Equal) ps at → SomeMember key (λ _. Unit {0}) (members_data ps)
hit [] key at within holds = absurd (omega arith)
hit (p ∷ ps) key at within holds = there (p ∷ ps) key at p within (same_key (get_or (p ∷ ps) at p).0 key (holds p))

-- the place of a member
place : (ps : List (List ℕ × Json)) (key : List ℕ) → SomeMember key (λ _. Unit {0}) (members_data ps) → (at : ℕ) × (at < length ps) × ((d : List ℕ × Json) → (get_or ps at d).0 ≡ key)
place [] key some = absurd some
place (p ∷ ps) key some = elim some [
  | inl here ↦ (0, omega arith, λ d. here.0)
  | inr more ↦ let behind = place ps key more in let within = behind.1 in (suc behind.0, omega arith, behind.2)
]

adjacent : (ps : List (List ℕ × Json)) → IsRising (members_data ps) → (k : ℕ) (d : List ℕ × Json) → k + 1 < length ps → slice_cmp nat_cmp (get_or ps k d).0 (get_or ps (k + 1) d).0 ≡ Less
adjacent [] rising k d within = absurd (omega arith)
adjacent (p ∷ []) rising k d within = absurd (omega arith)
adjacent (p ∷ q ∷ ps) rising zero d within = rising.0.0
adjacent (p ∷ q ∷ ps) rising (suc k) d within =
    let place : suc (k + 1) ≡ suc k + 1 = omega arith in
    let P : ℕ → Type 0 = λ j. slice_cmp nat_cmp (get_or (q ∷ ps) k d).0 (get_or (p ∷ q ∷ ps) j d).0 ≡ Less in
    subst P place (adjacent (q ∷ ps) rising.1 k d (omega arith))

sorted : (ps : List (List ℕ × Json)) → IsRising (members_data ps) → IsSortedBy (λ (a b : List ℕ × Json). is_lt (slice_cmp nat_cmp a.0 b.0)) ps
sorted ps rising k d low high =
    ap is_lt (nat_list_cmp_total.antisymm (get_or ps (k + 1) d).0 (get_or ps k d).0 ∙ ap ordering_reverse (adjacent ps rising k d high))

pub miss : (ps : List (List ℕ × Json)) (key : List ℕ) (at : ℕ) → IsRising (members_data ps) → IsBinarySearchResult (compared key) ps (Err at) → SomeMember key (λ _. Unit {0}) (members_data ps) → ⊥
miss [] key at rising result some = some
miss (p ∷ ps) key at rising result some =
    let point = result (searchable_from_sorted nat_list_cmp_total (λ (q : List ℕ × Json). q.0) (p ∷ ps) key (sorted (p ∷ ps) rising)) in
    let found = place (p ∷ ps) key some in
    let tied : compared key (get_or (p ∷ ps) found.0 p) ≡ Equal = ap (λ (k : List ℕ). slice_cmp nat_cmp k key) (found.2 p) ∙ tied_itself nat_list_cmp_total key in
    elim (cases_lt found.0 at) [
      | inl low ↦ let apart : Equal ≡ Less = sym tied ∙ point.0 found.0 p (omega arith) low in cc
      | inr high ↦ let apart : Equal ≡ Greater = sym tied ∙ point.1 found.0 p high found.1 in cc
    ]
