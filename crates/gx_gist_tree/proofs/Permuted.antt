-- Lists in another order.
use Rattle.std.proofs.Common.{◌≡◌, ⊎_elim, ℕ, ◌+◌, ◌-◌, ◌<◌, List, [], ◌∷◌, ◌++◌, length, take, get_or, set, sym, ◌∙◌, ap, subst, append_assoc, length-append, arith}
use Rattle.std.specs.List.{flat_map, swap}
use Rattle.std.specs.List.Sorted.{IsPermutation}
use Rattle.std.proofs.lemmas.Bool.{cases_lt}
use Rattle.std.proofs.lemmas.Bool.Decides.{eqb_tells}
use Rattle.std.proofs.lemmas.Grind.{flat_map-append}
use Rattle.std.proofs.lemmas.List.{get_or_at, set_at}
use Rattle.std.proofs.lemmas.List.Edits.{swap_is}
use Rattle.std.proofs.lemmas.List.Sorted.{IsPermutation-refl, IsPermutation-sym, IsPermutation-trans, IsPermutation-cons, IsPermutation-middle, IsPermutation-keeps, IsPermutation-append_right, IsPermutation-append_comm}
use Rattle.gx_pages.proofs.Footprints as feet
use Rattle.gx_gist_tree.proofs.Places.{at}

-- a list that has the number
record Has (n : ℕ) (xs : List ℕ) : Type 0 where
  pub front : List ℕ
  pub back : List ℕ
  pub cut : xs ≡ front ++ n ∷ back

has_some : (n : ℕ) (xs : List ℕ) → 0 < feet.times n xs → Has n xs
has_some n [] some = absurd (omega (arith, some))
has_some n (x ∷ xs) some =
    ⊎_elim
    (λ same. record { front = []; back = xs; cut = ap (λ (m : ℕ). m ∷ xs) (sym same.1) })
    (λ other.
    let none = feet.hit_none n x other.1 in
    let rest = has_some n xs (omega (arith, some, none)) in
    record { front = x ∷ rest.front; back = rest.back; cut = ap (λ (l : List ℕ). x ∷ l) rest.cut })
    (eqb_tells n x)

-- two lists in which each number stands as often are the same but for their order
pub permuted : (xs ys : List ℕ) → ((n : ℕ) → feet.times n xs ≡ feet.times n ys) → IsPermutation xs ys
permuted [] [] same = IsPermutation-refl []
permuted [] (y ∷ ys) same = absurd (let here = same y in let one = feet.times_one y ys in omega (arith, here, one))
permuted (x ∷ xs) ys same =
    let here = has_some x ys (let e = same x in let one = feet.times_one x xs in omega (arith, e, one)) in
    let rest = permuted xs (here.front ++ here.back) (λ n.
    let e : feet.times n (x ∷ xs) ≡ feet.times n (here.front ++ x ∷ here.back) = same n ∙ ap (λ (l : List ℕ). feet.times n l) here.cut in
    omega (arith, e, feet.times-append n here.front (x ∷ here.back), feet.times-append n here.front here.back)) in
    IsPermutation-trans (x ∷ xs) (x ∷ (here.front ++ here.back)) ys (IsPermutation-cons x xs (here.front ++ here.back) rest)
    (subst (λ (l : List ℕ). IsPermutation (x ∷ (here.front ++ here.back)) l) (sym here.cut)
    (IsPermutation-sym (here.front ++ x ∷ here.back) (x ∷ (here.front ++ here.back)) (IsPermutation-middle here.front x here.back)))

-- two elements of a list exchanged
module _ {X : Type 0} (front mid : List X) (x y : X) (c : List X) (i j : ℕ) (at_i : length front ≡ i) (at_j : i + 1 + length mid ≡ j) where
  whole : List X
  whole = front ++ x ∷ (mid ++ y ∷ c)

  regroup : (z : X) (rest : List X) → front ++ z ∷ (mid ++ rest) ≡ (front ++ z ∷ mid) ++ rest
  regroup z rest = sym (append_assoc front (z ∷ mid) rest)

  far : (z : X) → length (front ++ z ∷ mid) ≡ j
  far z = let l = length-append front (z ∷ mid) in omega (arith, l, at_i, at_j)

  get_far : (z d : X) → get_or (front ++ z ∷ (mid ++ y ∷ c)) j d ≡ y
  get_far z d = ap (λ (l : List X). get_or l j d) (regroup z (y ∷ c)) ∙ get_or_at (front ++ z ∷ mid) y c d j (far z)

  set_far : (z w : X) → set (front ++ z ∷ (mid ++ y ∷ c)) j w ≡ front ++ z ∷ (mid ++ w ∷ c)
  set_far z w = ap (λ (l : List X). set l j w) (regroup z (y ∷ c)) ∙ set_at (front ++ z ∷ mid) y c w j (far z) ∙ sym (regroup z (w ∷ c))

  long : j < length (front ++ x ∷ (mid ++ y ∷ c))
  long =
      let a = length-append front (x ∷ (mid ++ y ∷ c)) in
      let b = length-append mid (y ∷ c) in
      omega (arith, a, b, at_i, at_j)

  pub swap_up : swap (front ++ x ∷ (mid ++ y ∷ c)) i j ≡ front ++ y ∷ (mid ++ x ∷ c)
  swap_up =
      let l = front ++ x ∷ (mid ++ y ∷ c) in
      sym (swap_is l i j x (omega (arith, long, at_j)) long)
      ∙ ap (λ (v : X). set (set l i v) j (get_or l i x)) (get_far x x)
      ∙ ap (λ (v : X). set (set l i y) j v) (get_or_at front x (mid ++ y ∷ c) x i at_i)
      ∙ ap (λ (m : List X). set m j x) (set_at front x (mid ++ y ∷ c) y i at_i)
      ∙ set_far y x

  pub swap_down : swap (front ++ x ∷ (mid ++ y ∷ c)) j i ≡ front ++ y ∷ (mid ++ x ∷ c)
  swap_down =
      let l = front ++ x ∷ (mid ++ y ∷ c) in
      sym (swap_is l j i x long (omega (arith, long, at_j)))
      ∙ ap (λ (v : X). set (set l j v) i (get_or l j x)) (get_or_at front x (mid ++ y ∷ c) x i at_i)
      ∙ ap (λ (v : X). set (set l j x) i v) (get_far x x)
      ∙ ap (λ (m : List X). set m i y) (set_far x x)
      ∙ set_at front x (mid ++ x ∷ c) y i at_i

swap_same : {X : Type 0} (l : List X) (i : ℕ) → i < length l → swap l i i ≡ l
swap_same {X} l i below =
    let a = at l i below in
    let f = take i l in
    let x = a.item in
    let b = a.back in
    let m = f ++ x ∷ b in
    let long : i < length m = let n = length-append f (x ∷ b) in omega (arith, n, a.len) in
    ap (λ (k : List X). swap k i i) a.split
    ∙ sym (swap_is m i i x long long)
    ∙ ap (λ (v : X). set (set m i v) i v) (get_or_at f x b x i a.len)
    ∙ ap (λ (k : List X). set k i x) (set_at f x b x i a.len)
    ∙ set_at f x b x i a.len
    ∙ sym a.split

-- what two elements of a list that lie apart are, and the list with both exchanged
record Apart {X : Type 0} (l : List X) (i j : ℕ) : Type 0 where
  pub front : List X
  pub mid : List X
  pub back : List X
  pub one : X
  pub other : X
  pub is : l ≡ front ++ one ∷ (mid ++ other ∷ back)
  pub up : swap l i j ≡ front ++ other ∷ (mid ++ one ∷ back)
  pub down : swap l j i ≡ front ++ other ∷ (mid ++ one ∷ back)

two_places : {X : Type 0} (l : List X) (i j : ℕ) → i < j → j < length l → Apart l i j
two_places {X} l i j order below =
    let a = at l i (omega (arith, order, below)) in
    let m = j - (i + 1) in
    let size = ap (λ (k : List X). length k) a.split ∙ length-append (take i l) (a.item ∷ a.back) in
    let b = at a.back m (omega (arith, size, a.len, order, below)) in
    let is : l ≡ take i l ++ a.item ∷ (take m a.back ++ b.item ∷ b.back) = a.split ∙ ap (λ (k : List X). take i l ++ a.item ∷ k) b.split in
    let far : i + 1 + length (take m a.back) ≡ j = omega (arith, b.len, order) in
    record {
      front = take i l;
      mid = take m a.back;
      back = b.back;
      one = a.item;
      other = b.item;
      is = is;
      up = ap (λ (k : List X). swap k i j) is ∙ swap_up (take i l) (take m a.back) a.item b.item b.back i j a.len far;
      down = ap (λ (k : List X). swap k j i) is ∙ swap_down (take i l) (take m a.back) a.item b.item b.back i j a.len far;
    }

turned : {A : Type 0} (f x m y b : List A) → IsPermutation (f ++ (x ++ (m ++ (y ++ b)))) (f ++ (y ++ (m ++ (x ++ b))))
turned {A} f x m y b =
    let one : IsPermutation (x ++ (m ++ (y ++ b))) ((m ++ (y ++ b)) ++ x) = IsPermutation-append_comm x (m ++ (y ++ b)) in
    let two : IsPermutation (m ++ (y ++ (b ++ x))) ((y ++ (b ++ x)) ++ m) = IsPermutation-append_comm m (y ++ (b ++ x)) in
    let three : IsPermutation ((b ++ x) ++ m) (m ++ (x ++ b)) =
    IsPermutation-trans ((b ++ x) ++ m) (m ++ (b ++ x)) (m ++ (x ++ b)) (IsPermutation-append_comm (b ++ x) m) (IsPermutation-append_right m (b ++ x) (x ++ b) (IsPermutation-append_comm b x)) in
    let re : (m ++ (y ++ b)) ++ x ≡ m ++ (y ++ (b ++ x)) = append_assoc m (y ++ b) x ∙ ap (λ (l : List A). m ++ l) (append_assoc y b x) in
    let se : (y ++ (b ++ x)) ++ m ≡ y ++ ((b ++ x) ++ m) = append_assoc y (b ++ x) m in
    let first : IsPermutation (x ++ (m ++ (y ++ b))) (m ++ (y ++ (b ++ x))) = subst (λ (l : List A). IsPermutation (x ++ (m ++ (y ++ b))) l) re one in
    let second : IsPermutation (m ++ (y ++ (b ++ x))) (y ++ ((b ++ x) ++ m)) = subst (λ (l : List A). IsPermutation (m ++ (y ++ (b ++ x))) l) se two in
    let third : IsPermutation (y ++ ((b ++ x) ++ m)) (y ++ (m ++ (x ++ b))) = IsPermutation-append_right y ((b ++ x) ++ m) (m ++ (x ++ b)) three in
    IsPermutation-append_right f (x ++ (m ++ (y ++ b))) (y ++ (m ++ (x ++ b)))
    (IsPermutation-trans (x ++ (m ++ (y ++ b))) (m ++ (y ++ (b ++ x))) (y ++ (m ++ (x ++ b))) first
    (IsPermutation-trans (m ++ (y ++ (b ++ x))) (y ++ ((b ++ x) ++ m)) (y ++ (m ++ (x ++ b))) second third))

module _ {X A : Type 0} (f : X → List A) where
  flat_cut : (front mid back : List X) (x y : X) → flat_map f (front ++ x ∷ (mid ++ y ∷ back)) ≡ flat_map f front ++ (f x ++ (flat_map f mid ++ (f y ++ flat_map f back)))
  flat_cut front mid back x y = flat_map-append f front (x ∷ (mid ++ y ∷ back)) ∙ ap (λ (l : List A). flat_map f front ++ (f x ++ l)) (flat_map-append f mid (y ∷ back))

  flat_apart : (l k : List X) (i j : ℕ) (a : Apart l i j) → k ≡ a.front ++ a.other ∷ (a.mid ++ a.one ∷ a.back) → IsPermutation (flat_map f l) (flat_map f k)
  flat_apart l k i j a is =
      subst (λ (m : List A). IsPermutation m (flat_map f k)) (sym (ap (λ (m : List X). flat_map f m) a.is ∙ flat_cut a.front a.mid a.back a.one a.other))
      (subst (λ (m : List A). IsPermutation (flat_map f a.front ++ (f a.one ++ (flat_map f a.mid ++ (f a.other ++ flat_map f a.back)))) m)
      (sym (ap (λ (m : List X). flat_map f m) is ∙ flat_cut a.front a.mid a.back a.other a.one))
      (turned (flat_map f a.front) (f a.one) (flat_map f a.mid) (f a.other) (flat_map f a.back)))

  flat_swapped : (l : List X) (i j : ℕ) → i < length l → j < length l → IsPermutation (flat_map f l) (flat_map f (swap l i j))
  flat_swapped l i j below within =
      ⊎_elim
      (λ less. let a = two_places l i j less within in flat_apart l (swap l i j) i j a a.up)
      (λ more. ⊎_elim
      (λ less. let a = two_places l j i less below in flat_apart l (swap l i j) j i a a.down)
      (λ most.
      let e : j ≡ i = omega (arith, more, most) in
      subst (λ (k : List X). IsPermutation (flat_map f l) (flat_map f k)) (sym (ap (λ (n : ℕ). swap l i n) e ∙ swap_same l i below)) (IsPermutation-refl (flat_map f l)))
      (cases_lt j i))
      (cases_lt i j)

  -- what stands below the elements of a list in another order
  pub flat_moved : (xs ys : List X) → IsPermutation xs ys → IsPermutation (flat_map f xs) (flat_map f ys)
  flat_moved xs ys moved =
      IsPermutation-keeps xs (λ (l : List X). IsPermutation (flat_map f xs) (flat_map f l)) (IsPermutation-refl (flat_map f xs))
      (λ l i j below within before. IsPermutation-trans (flat_map f xs) (flat_map f l) (flat_map f (swap l i j)) before (flat_swapped l i j below within)) ys moved
