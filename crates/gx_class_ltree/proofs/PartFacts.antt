-- Which labels of a path there is room for.
use Rattle.std.proofs.Common.{◌≡◌, ℕ, suc, ◌+◌, ◌-◌, ◌<◌, ◌≤◌, Bool, true, false, List, [], ◌∷◌, length, take, drop, if◌then◌else◌, refl, sym, ap, ap₂, ◌∙◌, arith, nat_eq, nat_le, nat_lt, not, length-drop, get_or, drop-cons, add-one}
use Rattle.std.proofs.lemmas.List.Sums.{sum_by-cons}
use Rattle.std.proofs.lemmas.Bool.Decides.{nat_tests}
use Rattle.gx_class_ltree.specs.Keys.{front, room_of, part}

-- as many of the first labels as there is room for
taken_at : (label : List ℕ) (path rest : List (List ℕ)) (b : Bool) → take (length rest) path ≡ rest → take (length (if b then label ∷ rest else [])) (label ∷ path) ≡ (if b then label ∷ rest else [])
taken_at label path rest true e = ap (λ (x : List (List ℕ)). label ∷ x) e
taken_at label path rest false e = refl

pub front_taken : (room : ℕ) (path : List (List ℕ)) → take (length (front room path)) path ≡ front room path
front_taken room [] = refl
front_taken room (label ∷ path) =
    taken_at label path (front (room - (length label + 2)) path) (nat_le (length label + 2) room) (front_taken (room - (length label + 2)) path)

-- all of them where they take no more
step_fits : (a m p r room : ℕ) (t : Bool) → nat_le (a + 2) room ≡ true → nat_le r (room - (a + 2)) ≡ t → nat_eq m p ≡ t → nat_eq (suc m) (suc p) ≡ nat_le (a + 2 + r) room
step_fits a m p r room true e f g = grind (arith, nat_tests, e, f, g)
step_fits a m p r room false e f g = grind (arith, nat_tests, e, f, g)

step_stops : (a p r room : ℕ) → nat_le (a + 2) room ≡ false → nat_eq 0 (suc p) ≡ nat_le (a + 2 + r) room
step_stops a p r room e = grind (arith, nat_tests, e)

count_at : (label : List ℕ) (path rest : List (List ℕ)) (room : ℕ) (b : Bool) → nat_le (length label + 2) room ≡ b → nat_eq (length rest) (length path) ≡ nat_le (room_of path) (room - (length label + 2))
    → nat_eq (length (if b then label ∷ rest else [])) (length (label ∷ path)) ≡ nat_le (length label + 2 + room_of path) room
count_at label path rest room true e f = step_fits (length label) (length rest) (length path) (room_of path) room (nat_le (room_of path) (room - (length label + 2))) e refl f
count_at label path rest room false e f = step_stops (length label) (length path) (room_of path) room e

pub front_whole : (room : ℕ) (path : List (List ℕ)) → nat_eq (length (front room path)) (length path) ≡ nat_le (room_of path) room
front_whole room [] = grind (arith, nat_tests)
front_whole room (label ∷ path) =
    count_at label path (front (room - (length label + 2)) path) room (nat_le (length label + 2) room) refl (front_whole (room - (length label + 2)) path)
    ∙ ap (λ (n : ℕ). nat_le n room) (sym (sum_by-cons (λ (l : List ℕ). length l + 2) label path))

-- The part that is cut from a path.
few_at : (label : List ℕ) (path rest : List (List ℕ)) (b : Bool) → length rest ≤ length path → length (if b then label ∷ rest else []) ≤ length (label ∷ path)
few_at label path rest true h = omega (arith, h)
few_at label path rest false h = omega arith

front_few : (room : ℕ) (path : List (List ℕ)) → length (front room path) ≤ length path
front_few room [] = omega arith
front_few room (label ∷ path) =
    few_at label path (front (room - (length label + 2)) path) (nat_le (length label + 2) room) (front_few (room - (length label + 2)) path)

pub front_fits : (path labels again : List (List ℕ)) (count : ℕ) → labels ≡ path → again ≡ path → count ≡ length (front 600 labels) → count ≤ length again
front_fits path labels again count e f g =
    let few = front_few 600 path in
    omega (arith, few, g, ap (λ (xs : List (List ℕ)). length (front 600 xs)) e, ap length f)

same_cut : (m n : ℕ) → m ≤ n → not (nat_eq (n - m) 0) ≡ nat_lt m n
same_cut m n h = grind (arith, nat_tests, h)

pub part_made : (path labels again : List (List ℕ)) (count : ℕ) (before behind made : List (List ℕ)) (none : Bool) → labels ≡ path → again ≡ path → count ≡ length (front 600 labels)
    → before ≡ take count again → behind ≡ drop count again → made ≡ before → none ≡ nat_eq (length behind) 0 → record { path = made; cut = not none } ≡ part path
part_made path labels again count before behind made none e f g h i j k =
    let many : count ≡ length (front 600 path) = g ∙ ap (λ (xs : List (List ℕ)). length (front 600 xs)) e in
    let first : made ≡ front 600 path = j ∙ h ∙ ap₂ (λ (n : ℕ) (xs : List (List ℕ)). take n xs) many f ∙ front_taken 600 path in
    let rest : length behind ≡ length path - length (front 600 path) =
    ap length (i ∙ ap₂ (λ (n : ℕ) (xs : List (List ℕ)). drop n xs) many f) ∙ length-drop (length (front 600 path)) path in
    let cut : not none ≡ nat_lt (length (front 600 path)) (length path) =
    ap not k ∙ ap (λ (n : ℕ). not (nat_eq n 0)) rest ∙ same_cut (length (front 600 path)) (length path) (front_few 600 path) in
    λ t. record { path = first t; cut = cut t }

-- A label more for which there is room.
pub one_more : (path : List (List ℕ)) (at room taken count all : ℕ) (label : List ℕ) → at < length path → label ≡ get_or path at label → taken ≡ length label + 2 → taken ≤ room → all ≡ count + length (front room (drop at path))
    → all ≡ count + 1 + length (front (room - taken) (drop (at + 1) path))
one_more path at room taken count all label h is e few f =
    let behind : drop at path ≡ label ∷ drop (at + 1) path = drop-cons path at label h ∙ ap₂ (λ (x : List ℕ) (n : ℕ). x ∷ drop n path) (sym is) (sym (add-one at)) in
    let fits : nat_le (length label + 2) room ≡ true = grind (arith, nat_tests, e, few) in
    let more : length (front room (label ∷ drop (at + 1) path)) ≡ suc (length (front (room - (length label + 2)) (drop (at + 1) path))) = rw fits refl in
    let whole : length (front room (drop at path)) ≡ suc (length (front (room - taken) (drop (at + 1) path))) =
    ap (λ (xs : List (List ℕ)). length (front room xs)) behind ∙ more ∙ ap (λ (n : ℕ). suc (length (front (room - n) (drop (at + 1) path)))) (sym e) in
    omega (arith, f, whole)
