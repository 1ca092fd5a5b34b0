-- What items take on a page.
use Rattle.std.proofs.Common.{◌≡◌, ℕ, zero, suc, ◌+◌, ◌<◌, ◌≤◌, List, [], ◌∷◌, ◌++◌, length, take, drop, Option, Some, None, refl, ap, length-append, arith}
use Rattle.std.proofs.lemmas.List.{map-append}
use Rattle.gx_bytes.specs.Fields.{le16, le64, length-le16, length-le64}
use Rattle.gx_slot.specs.Slots.{taken, packed}
use Rattle.gx_gist_tree.specs.Trees.{Entry}
use Rattle.gx_gist_tree.specs.OnPages.{inner_item, leaf_item}
use Rattle.gx_gist_tree.specs.Insertion.{items_but, items_in}
use Rattle.gx_gist_tree.proofs.Picks.{somes, taken_append, taken_cons}

pub inner_room : {K : Type 0} (bytes : K → List ℕ) (child : ℕ) (key : K) → length (bytes key) ≤ 1900 → length (inner_item bytes child key) ≤ 1908
inner_room bytes child key short = omega (arith, short, length-append (le64 child) (bytes key), length-le64 child)

pub leaf_room : {K : Type 0} (bytes : K → List ℕ) (e : Entry K) → length (bytes e.1) ≤ 1900 → length (leaf_item bytes e) ≤ 1918
leaf_room bytes e short = omega (
  arith,
  short,
  length-append (le64 e.0.number ++ le64 e.0.page ++ le16 e.0.slot) (bytes e.1),
  length-append (le64 e.0.number ++ le64 e.0.page) (le16 e.0.slot),
  length-append (le64 e.0.number) (le64 e.0.page),
  length-le64 e.0.number,
  length-le64 e.0.page,
  length-le16 e.0.slot,
)

-- one more item
pub taken_push : (items : List (List ℕ)) (item : List ℕ) → taken (somes (items ++ item ∷ [])) ≡ taken (somes items) + (4 + length item)
taken_push items item =
    let cut = ap (λ (l : List (Option (List ℕ))). taken l) (map-append (λ (i : List ℕ). Some i) items (item ∷ [])) in
    let parts = taken_append (somes items) (Some item ∷ []) in
    let last = taken_cons item [] in
    omega (arith, cut, parts, last)

-- the items of slots take no more than the slots
pub taken_in : (slots : List (Option (List ℕ))) → taken (somes (items_in slots)) ≤ taken slots
taken_in [] = omega arith
taken_in (None ∷ slots) = let rest = taken_in slots in omega (arith, rest)
taken_in (Some item ∷ slots) =
    let rest = taken_in slots in
    let here = taken_cons item (items_in slots) in
    let l = length-append (packed slots) item in
    omega (arith, rest, here, l)

-- two parts of slots
take_cut : {X : Type 0} (n : ℕ) (xs : List X) → xs ≡ take n xs ++ drop n xs
take_cut zero [] = refl
take_cut (suc n) [] = refl
take_cut zero (x ∷ xs) = refl
take_cut {X} (suc n) (x ∷ xs) = ap (λ (l : List X). x ∷ l) (take_cut n xs)

taken_drop : (n : ℕ) (slots : List (Option (List ℕ))) → taken (drop n slots) ≤ taken slots
taken_drop n slots = let cut = ap (λ (l : List (Option (List ℕ))). taken l) (take_cut n slots) in let parts = taken_append (take n slots) (drop n slots) in omega (arith, cut, parts)

drop_next : (n : ℕ) (slots : List (Option (List ℕ))) → taken (drop (suc n) slots) ≤ taken (drop n slots)
drop_next zero [] = omega arith
drop_next zero (x ∷ slots) = taken_drop (suc zero) (x ∷ slots)
drop_next (suc n) [] = omega arith
drop_next (suc n) (x ∷ slots) = drop_next n slots

pub taken_but : (slots : List (Option (List ℕ))) (slot : ℕ) → taken (somes (items_but slots slot)) ≤ taken slots
taken_but slots slot =
    let up : slot + 1 ≡ suc slot = omega arith in
    let cut = ap (λ (l : List (Option (List ℕ))). taken l) (map-append (λ (i : List ℕ). Some i) (items_in (take slot slots)) (items_in (drop (slot + 1) slots))) in
    let parts = taken_append (somes (items_in (take slot slots))) (somes (items_in (drop (slot + 1) slots))) in
    let first = taken_in (take slot slots) in
    let last = taken_in (drop (slot + 1) slots) in
    let same = ap (λ (n : ℕ). taken (drop n slots)) up in
    let next = drop_next slot slots in
    let whole = ap (λ (l : List (Option (List ℕ))). taken l) (take_cut slot slots) in
    let both = taken_append (take slot slots) (drop slot slots) in
    omega (arith, cut, parts, first, last, same, next, whole, both)

-- two items of keys have room on a page
pub two_room : (one other : List ℕ) (items : List (List ℕ)) {a b : ℕ} → items ≡ ([] ++ one ∷ []) ++ other ∷ [] → length one ≡ a → length other ≡ b → a ≤ 1908 → b ≤ 1908 → 8176 < taken (somes items) → ⊥
two_room one other items is la lb sa sb full =
    let t = ap (λ (l : List (List ℕ)). taken (somes l)) is in
    let first = taken_cons one (other ∷ []) in
    let second = taken_cons other [] in
    omega (arith, t, first, second, la, lb, sa, sb, full)
