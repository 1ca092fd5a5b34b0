-- Lists whose elements pass, names that differ, and numbers that rise.
use Rattle.std.proofs.Common.{◌≡◌, ℕ, suc, ◌≤◌, Bool, true, false, ◌||◌, cond, List, [], ◌∷◌, ◌++◌, length, map, Option, Some, None, refl, sym, ap, subst, arith}
use Rattle.std.specs.Prelude.{find, filter}
use Rattle.std.specs.List.{list_any, AllByRecursion}
use Rattle.std.specs.Str.{bytes_eq}
use Rattle.std.proofs.lemmas.Slice.Eq.{bytes_eq-Decides}
use Rattle.gx_model.specs.Database.{Row, AreDistinct, Rises}

pub all_push : {A : Type 0} (P : A → Type 0) (xs : List A) (x : A) → AllByRecursion P xs → P x → AllByRecursion P (xs ++ x ∷ [])
all_push P [] x h k = (k, tt)
all_push P (y ∷ xs) x h k = (h.0, all_push P xs x h.1 k)

pub all_join : {A : Type 0} (P : A → Type 0) (xs ys : List A) → AllByRecursion P xs → AllByRecursion P ys → AllByRecursion P (xs ++ ys)
all_join P [] ys h k = k
all_join P (x ∷ xs) ys h k = (h.0, all_join P xs ys h.1 k)

all_found_step : {A : Type 0} (P : A → Type 0) (b : Bool) (y : A) (rest : Option A) (x : A) → P y → (rest ≡ Some x → P x) → cond b (Some y) rest ≡ Some x → P x
all_found_step P true y rest x h r e = let g : y ≡ x = cc in subst P g h
all_found_step P false y rest x h r e = r e

pub all_found : {A : Type 0} (P : A → Type 0) (p : A → Bool) (xs : List A) (x : A) → AllByRecursion P xs → find p xs ≡ Some x → P x
all_found P p [] x h e = absurd (none e)
  where
    none : None ≡ Some x → ⊥
    none g = cc
all_found P p (y ∷ xs) x h e = all_found_step P (p y) y (find p xs) x h.0 (all_found P p xs x h.1) e

all_kept_step : {A : Type 0} (P : A → Type 0) (b : Bool) (x : A) (rest : List A) → P x → AllByRecursion P rest → AllByRecursion P (cond b (x ∷ rest) rest)
all_kept_step P true x rest h k = (h, k)
all_kept_step P false x rest h k = k

pub all_kept : {A : Type 0} (P : A → Type 0) (p : A → Bool) (xs : List A) → AllByRecursion P xs → AllByRecursion P (filter p xs)
all_kept P p [] h = tt
all_kept P p (x ∷ xs) h = all_kept_step P (p x) x (filter p xs) h.0 (all_kept P p xs h.1)

pub map_join : {A B : Type 0} (f : A → B) (xs ys : List A) → map f (xs ++ ys) ≡ map f xs ++ map f ys
map_join f [] ys = refl
map_join {B = B} f (x ∷ xs) ys = ap (λ (zs : List B). f x ∷ zs) (map_join f xs ys)

pub length_map : {A B : Type 0} (f : A → B) (xs : List A) → length (map f xs) ≡ length xs
length_map f [] = refl
length_map f (x ∷ xs) = ap (λ (n : ℕ). suc n) (length_map f xs)

pub length_push : {A : Type 0} (xs : List A) (x : A) → length (xs ++ x ∷ []) ≡ suc (length xs)
length_push [] x = refl
length_push (y ∷ xs) x = ap (λ (n : ℕ). suc n) (length_push xs x)

shorter_step : {A : Type 0} (b : Bool) (x : A) (rest xs : List A) → length rest ≤ length xs → length (cond b (x ∷ rest) rest) ≤ suc (length xs)
shorter_step true x rest xs h = omega arith
shorter_step false x rest xs h = omega arith

pub no_longer : {A : Type 0} (p : A → Bool) (xs : List A) → length (filter p xs) ≤ length xs
no_longer p [] = omega arith
no_longer p (x ∷ xs) = shorter_step (p x) x (filter p xs) xs (no_longer p xs)

-- Tests of some element.

or_false : (a b : Bool) → (a || b) ≡ false → (a ≡ false) × (b ≡ false)
or_false true b h = absurd (not_so h)
  where
    not_so : true ≡ false → ⊥
    not_so g = cc
or_false false b h = (refl, h)

false_or : (a b : Bool) → a ≡ false → b ≡ false → (a || b) ≡ false
false_or true b h k = cc
false_or false b h k = k

pub any_parts : {A : Type 0} (p : A → Bool) (x : A) (xs : List A) → list_any p (x ∷ xs) ≡ false → (p x ≡ false) × (list_any p xs ≡ false)
any_parts p x xs h = or_false (p x) (list_any p xs) h

pub any_cons : {A : Type 0} (p : A → Bool) (x : A) (xs : List A) → p x ≡ false → list_any p xs ≡ false → list_any p (x ∷ xs) ≡ false
any_cons p x xs h k = false_or (p x) (list_any p xs) h k

pub any_push : {A : Type 0} (p : A → Bool) (xs : List A) (x : A) → list_any p xs ≡ false → p x ≡ false → list_any p (xs ++ x ∷ []) ≡ false
any_push p [] x h k = any_cons p x [] k refl
any_push p (y ∷ xs) x h k = let e = any_parts p y xs h in any_cons p y (xs ++ x ∷ []) e.0 (any_push p xs x e.1 k)

-- what is behind others, where none passes
pub any_behind : {A : Type 0} (p : A → Bool) (xs : List A) (x : A) → list_any p (xs ++ x ∷ []) ≡ false → (list_any p xs ≡ false) × (p x ≡ false)
any_behind p [] x h = (refl, (any_parts p x [] h).0)
any_behind p (y ∷ xs) x h =
    let e = any_parts p y (xs ++ x ∷ []) h in
    let r = any_behind p xs x e.1 in
    (any_cons p y xs e.0 r.0, r.1)

-- Names.

other_way_step : (a b : List ℕ) (c : Bool) → bytes_eq b a ≡ c → bytes_eq a b ≡ false → c ≡ false
other_way_step a b true h k = let e : b ≡ a = (bytes_eq-Decides b a).0 h in let g : bytes_eq a b ≡ true = (bytes_eq-Decides a b).1 (sym e) in cc
other_way_step a b false h k = refl

pub other_way : (a b : List ℕ) → bytes_eq a b ≡ false → bytes_eq b a ≡ false
other_way a b h = other_way_step a b (bytes_eq b a) refl h

pub same_bytes : (a : List ℕ) → bytes_eq a a ≡ true
same_bytes a = (bytes_eq-Decides a a).1 refl

-- the name is none of these, said the other way
pub none_of : (ns : List (List ℕ)) (n : List ℕ) → list_any (λ m. bytes_eq m n) ns ≡ false → list_any (bytes_eq n) ns ≡ false
none_of [] n h = refl
none_of (m ∷ ns) n h = let e = any_parts (λ k. bytes_eq k n) m ns h in any_cons (bytes_eq n) m ns (other_way m n e.0) (none_of ns n e.1)

pub distinct_push : (ns : List (List ℕ)) (n : List ℕ) → AreDistinct ns → list_any (λ m. bytes_eq m n) ns ≡ false → AreDistinct (ns ++ n ∷ [])
distinct_push [] n h k = (refl, tt)
distinct_push (m ∷ ns) n h k =
    let e = any_parts (λ j. bytes_eq j n) m ns k in
    (any_push (bytes_eq m) ns n h.0 e.0, distinct_push ns n h.1 e.1)

none_kept_step : {A : Type 0} (f : A → List ℕ) (n : List ℕ) (b : Bool) (x : A) (rest : List A) → bytes_eq n (f x) ≡ false → list_any (bytes_eq n) (map f rest) ≡ false
    → list_any (bytes_eq n) (map f (cond b (x ∷ rest) rest)) ≡ false
none_kept_step f n true x rest h k = any_cons (bytes_eq n) (f x) (map f rest) h k
none_kept_step f n false x rest h k = k

none_kept : {A : Type 0} (f : A → List ℕ) (n : List ℕ) (p : A → Bool) (xs : List A) → list_any (bytes_eq n) (map f xs) ≡ false → list_any (bytes_eq n) (map f (filter p xs)) ≡ false
none_kept f n p [] h = refl
none_kept f n p (x ∷ xs) h =
    let e = any_parts (bytes_eq n) (f x) (map f xs) h in
    none_kept_step f n (p x) x (filter p xs) e.0 (none_kept f n p xs e.1)

distinct_kept_step : {A : Type 0} (f : A → List ℕ) (b : Bool) (x : A) (rest : List A) → list_any (bytes_eq (f x)) (map f rest) ≡ false → AreDistinct (map f rest)
    → AreDistinct (map f (cond b (x ∷ rest) rest))
distinct_kept_step f true x rest h k = (h, k)
distinct_kept_step f false x rest h k = k

pub distinct_kept : {A : Type 0} (f : A → List ℕ) (p : A → Bool) (xs : List A) → AreDistinct (map f xs) → AreDistinct (map f (filter p xs))
distinct_kept f p [] h = tt
distinct_kept f p (x ∷ xs) h = distinct_kept_step f (p x) x (filter p xs) (none_kept f (f x) p xs h.0) (distinct_kept f p xs h.1)

-- Row numbers.

pub rises_from : (low least high : ℕ) (rows : List Row) → least ≤ low → Rises low high rows → Rises least high rows
rises_from low least high [] h r = omega arith
rises_from low least high (row ∷ rows) h r = let a = r.0 in (omega arith, r.1)

pub rises_join : (low mid high : ℕ) (rows more : List Row) → Rises low mid rows → Rises mid high more → Rises low high (rows ++ more)
rises_join low mid high [] more h k = rises_from mid low high more h k
rises_join low mid high (row ∷ rows) more h k = (h.0, rises_join (suc row.number) mid high rows more h.1 k)

rises_kept_step : (b : Bool) (low high : ℕ) (row : Row) (rest : List Row) → low ≤ row.number → Rises (suc row.number) high rest → Rises low high (cond b (row ∷ rest) rest)
rises_kept_step true low high row rest h r = (h, r)
rises_kept_step false low high row rest h r = rises_from (suc row.number) low high rest (omega arith) r

pub rises_kept : (p : Row → Bool) (low high : ℕ) (rows : List Row) → Rises low high rows → Rises low high (filter p rows)
rises_kept p low high [] h = h
rises_kept p low high (row ∷ rows) h = rises_kept_step (p row) low high row (filter p rows) h.0 (rises_kept p (suc row.number) high rows h.1)
