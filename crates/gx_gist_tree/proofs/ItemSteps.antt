-- Items, one by one.
use Rattle.std.proofs.Common.{◌≡◌, ℕ, zero, suc, ◌+◌, ◌-◌, ◌<◌, ◌≤◌, List, [], ◌∷◌, ◌++◌, length, take, drop, get_or, Option, Some, None, refl, sym, ◌∙◌, ap, append_assoc, append-nil, arith}
use Rattle.std.specs.List.{slice_get, cons_option}
use Rattle.std.proofs.lemmas.List.{take_more, map-append}
use Rattle.std.proofs.lemmas.Option.{slice_get-get_or}
use Rattle.gx_slot.specs.Slots.{Slots, item_at, taken, with_item}
use Rattle.gx_gist_tree.specs.Insertion.{items_but, items_in, page_with, picked}
use Rattle.gx_gist_tree.proofs.Picks.{picked_append, somes, taken_cons}
use Rattle.gx_gist_tree.proofs.RoomFacts.{taken_push}

abbrev pub one_of : Option (List ℕ) → List (List ℕ)
one_of None = []
one_of (Some item) = item ∷ []

-- one slot more
next_slot : (k : ℕ) (slots : List (Option (List ℕ))) → items_in (take (suc k) slots) ≡ items_in (take k slots) ++ one_of (item_at slots k)
next_slot zero [] = refl
next_slot (suc k) [] = refl
next_slot zero (None ∷ slots) = refl
next_slot zero (Some x ∷ slots) = refl
next_slot (suc k) (None ∷ slots) = next_slot k slots
next_slot (suc k) (Some x ∷ slots) = ap (λ (l : List (List ℕ)). x ∷ l) (next_slot k slots)

item_behind : (from k : ℕ) (slots : List (Option (List ℕ))) → item_at (drop from slots) k ≡ item_at slots (from + k)
item_behind zero k [] = refl
item_behind (suc from) k [] = refl
item_behind zero k (x ∷ slots) = let e : 0 + k ≡ k = omega arith in ap (λ (n : ℕ). item_at (x ∷ slots) n) (sym e)
item_behind (suc from) k (x ∷ slots) = let e : suc from + k ≡ suc (from + k) = omega arith in item_behind from k slots ∙ ap (λ (n : ℕ). item_at (x ∷ slots) n) (sym e)

step_to : (base before : List (List ℕ)) (from slot : ℕ) (slots : List (Option (List ℕ))) (o : Option (List ℕ)) → from ≤ slot → item_at slots slot ≡ o → before ≡ base ++ items_in (take (slot - from) (drop from slots))
    → before ++ one_of o ≡ base ++ items_in (take ((slot + 1) - from) (drop from slots))
step_to base before from slot slots o low is was =
    let k = slot - from in
    let next : (slot + 1) - from ≡ suc (slot - from) = omega (arith, low) in
    let here : from + (slot - from) ≡ slot = omega (arith, low) in
    ap (λ (l : List (List ℕ)). l ++ one_of o) was
    ∙ append_assoc base (items_in (take k (drop from slots))) (one_of o)
    ∙ ap (λ (l : List (List ℕ)). base ++ l)
    (ap (λ (x : Option (List ℕ)). items_in (take k (drop from slots)) ++ one_of x) (sym is ∙ ap (λ (n : ℕ). item_at slots n) (sym here) ∙ sym (item_behind from k slots))
    ∙ sym (next_slot k (drop from slots)))
    ∙ ap (λ (n : ℕ). base ++ items_in (take n (drop from slots))) (sym next)

pub items_some : (base before : List (List ℕ)) (from slot : ℕ) (slots : List (Option (List ℕ))) (item : List ℕ) → from ≤ slot → item_at slots slot ≡ Some item → before ≡ base ++ items_in (take (slot - from) (drop from slots))
    → before ++ item ∷ [] ≡ base ++ items_in (take ((slot + 1) - from) (drop from slots))
items_some base before from slot slots item low is was = step_to base before from slot slots (Some item) low is was

pub items_none : (base before : List (List ℕ)) (from slot : ℕ) (slots : List (Option (List ℕ))) → from ≤ slot → item_at slots slot ≡ None → before ≡ base ++ items_in (take (slot - from) (drop from slots))
    → before ≡ base ++ items_in (take ((slot + 1) - from) (drop from slots))
items_none base before from slot slots low is was = sym (append-nil before) ∙ step_to base before from slot slots None low is was

pub items_start : (base : List (List ℕ)) (from : ℕ) (slots : List (Option (List ℕ))) → base ≡ base ++ items_in (take (from - from) slots)
items_start base from slots =
    let none : from - from ≡ 0 = omega arith in
    sym (append-nil base) ∙ ap (λ (l : List (List ℕ)). base ++ l) (sym (nothing slots)) ∙ ap (λ (n : ℕ). base ++ items_in (take n slots)) (sym none)
  where
    nothing : (xs : List (Option (List ℕ))) → items_in (take 0 xs) ≡ []
    nothing [] = refl
    nothing (x ∷ xs) = refl

take_all : {X : Type 0} (n : ℕ) (xs : List X) → length xs ≤ n → take n xs ≡ xs
take_all zero [] h = refl
take_all (suc n) [] h = refl
take_all zero (x ∷ xs) h = absurd (omega (arith, h))
take_all {X} (suc n) (x ∷ xs) h = ap (λ (l : List X). x ∷ l) (take_all n xs (omega (arith, h)))

drop_none : {X : Type 0} (xs : List X) → drop 0 xs ≡ xs
drop_none [] = refl
drop_none (x ∷ xs) = refl

-- all slots of a page
pub items_whole : (slots : List (Option (List ℕ))) (n : ℕ) → n ≡ length slots → [] ++ items_in (take (n - 0) (drop 0 slots)) ≡ items_in slots
items_whole slots n is =
    let e : n - 0 ≡ n = omega arith in
    ap (λ (m : ℕ). items_in (take m (drop 0 slots))) e ∙ ap (λ (l : List (Option (List ℕ))). items_in (take n l)) (drop_none slots) ∙ ap (λ (l : List (Option (List ℕ))). items_in l) (take_all n slots (omega (arith, is)))

-- those before a slot, and those behind it
drop_length : {X : Type 0} (n : ℕ) (xs : List X) → length (drop n xs) ≡ length xs - n
drop_length zero [] = refl
drop_length (suc n) [] = omega arith
drop_length zero (x ∷ xs) = omega arith
drop_length (suc n) (x ∷ xs) = let rest = drop_length n xs in omega (arith, rest)

pub items_around : (slots : List (Option (List ℕ))) (slot n : ℕ) (first now : List (List ℕ)) → n ≡ length slots → first ≡ [] ++ items_in (take (slot - 0) (drop 0 slots)) → now ≡ first ++ items_in (take (n - (slot + 1)) (drop (slot + 1) slots))
    → now ≡ items_but slots slot
items_around slots slot n first now is was more =
    let e : slot - 0 ≡ slot = omega arith in
    more
    ∙ ap (λ (l : List (List ℕ)). l ++ items_in (take (n - (slot + 1)) (drop (slot + 1) slots))) (was ∙ ap (λ (m : ℕ). items_in (take m (drop 0 slots))) e ∙ ap (λ (l : List (Option (List ℕ))). items_in (take slot l)) (drop_none slots))
    ∙ ap (λ (l : List (Option (List ℕ))). items_in (take slot slots) ++ items_in l) (take_all (n - (slot + 1)) (drop (slot + 1) slots) (omega (arith, drop_length (slot + 1) slots, is)))

-- a page with the first of the items, and one more
abbrev pub of_taken : List (List ℕ) → ℕ
of_taken items = taken (somes items)

pub page_start : (level : ℕ) (items : List (List ℕ)) → page_with level (take 0 items) ≡ record { kind = 4; level = level; next = 0; items = [] }
page_start level [] = refl
page_start level (x ∷ items) = refl

pub page_more : (level : ℕ) (items : List (List ℕ)) (item : List ℕ) (old new : Slots) → old ≡ page_with level items → new ≡ with_item old (Some item) → new ≡ page_with level (items ++ item ∷ [])
page_more level items item old new was is =
    is ∙ ap (λ (s : Slots). with_item s (Some item)) was
    ∙ ap (λ (l : List (Option (List ℕ))). record { kind = 4; level = level; next = 0; items = l }) (sym (map-append (λ (i : List ℕ). Some i) items (item ∷ [])))

-- No room: the items take more than a page.
pub page_full : (level : ℕ) (items : List (List ℕ)) (item : List ℕ) (old : Slots) (free : ℕ) → old ≡ page_with level items → free + taken old.items ≡ 8176 → free < 4 + length item → 8176 < of_taken (items ++ item ∷ [])
page_full level items item old free was full less =
    let more = taken_push items item in
    let same = ap (λ (s : Slots). taken s.items) was in
    omega (arith, more, same, full, less)

pub take_next : {X : Type 0} (xs : List X) (k : ℕ) (d : X) → k < length xs → take (k + 1) xs ≡ take k xs ++ get_or xs k d ∷ []
take_next xs k d below = take_more xs k d below

pub taken_front : (k : ℕ) (items : List (List ℕ)) → of_taken (take k items) ≤ of_taken items
taken_front zero [] = omega arith
taken_front zero (x ∷ items) = omega arith
taken_front (suc k) [] = omega arith
taken_front (suc k) (x ∷ items) =
    let rest = taken_front k items in
    let here = taken_cons x (take k items) in
    let all = taken_cons x items in
    omega (arith, rest, here, all)

pub picked_none : {X : Type 0} (xs : List X) (places : List ℕ) → picked xs (take 0 places) ≡ []
picked_none xs [] = refl
picked_none xs (p ∷ places) = refl

option_taken : (o : Option (List ℕ)) (items more : List (List ℕ)) → of_taken items ≤ of_taken more → of_taken (cons_option o items) ≤ of_taken (cons_option o more)
option_taken None items more less = less
option_taken (Some x) items more less = let a = taken_cons x items in let b = taken_cons x more in omega (arith, a, b, less)

some_taken : (o : Option (List ℕ)) (items : List (List ℕ)) → 0 ≤ of_taken (cons_option o items)
some_taken o items = omega arith

pub picked_front : (items : List (List ℕ)) (places : List ℕ) (k : ℕ) → of_taken (picked items (take k places)) ≤ of_taken (picked items places)
picked_front items [] zero = omega arith
picked_front items [] (suc k) = omega arith
picked_front items (p ∷ places) zero = omega arith
picked_front items (p ∷ places) (suc k) = option_taken (slice_get items p) (picked items (take k places)) (picked items places) (picked_front items places k)

-- the next of the elements at places
pub picked_next : {X : Type 0} (xs : List X) (places : List ℕ) (k : ℕ) (x : X) → k < length places → get_or places k 0 < length xs → x ≡ get_or xs (get_or places k 0) x
    → picked xs (take (k + 1) places) ≡ picked xs (take k places) ++ x ∷ []
picked_next {X} xs places k x below within is =
    ap (λ (l : List ℕ). picked xs l) (take_more places k 0 below)
    ∙ picked_append xs (take k places) (get_or places k 0 ∷ [])
    ∙ ap (λ (o : Option X). picked xs (take k places) ++ cons_option o []) (slice_get-get_or xs (get_or places k 0) x within)
    ∙ ap (λ (y : X). picked xs (take k places) ++ y ∷ []) (sym is)
