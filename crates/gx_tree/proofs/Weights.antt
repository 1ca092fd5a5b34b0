-- How many bytes items take on a page, and where they are cut.
use Rattle.std.proofs.Common.{◌≡◌, ◌≢◌, ⊎_elim, ℕ, zero, suc, ◌+◌, ◌-◌, ◌*◌, ◌<◌, ◌≤◌, List, [], ◌∷◌, ◌++◌, length, map, take, drop, get_or, slice_get, Option, Some, None, refl, sym, ◌∙◌, ap, subst, append_assoc, append-nil, length-append, length-drop, add-one, arith}
use Rattle.std.specs.List.{AllByRecursion}
use Rattle.std.proofs.lemmas.List.{drop-append-le, drop_all, length-take, length-take-le, take-append-drop, take-take}
use Rattle.std.proofs.lemmas.Bool.{cases_lt}
use Rattle.std.proofs.Math.Nat.{mul-le-mul_left}
use Rattle.gx_pages.proofs.Footprints as feet
use Rattle.gx_slot.specs.Slots.{packed, taken}
use Rattle.gx_tree.specs.Paging.{CanSplit, IsMiddle, weight}
use Rattle.gx_tree.proofs.Lists.{At, at_place, all_place}

pub weight-append : (xs ys : List (List ℕ)) → weight (xs ++ ys) ≡ weight xs + weight ys
weight-append [] ys = omega arith
weight-append (x ∷ xs) ys = let rest = weight-append xs ys in omega (arith, rest)

packed_weight : (xs : List (List ℕ)) → 4 * length xs + length (packed (map (λ item. Some item) xs)) ≡ weight xs
packed_weight [] = omega arith
packed_weight (x ∷ xs) =
    let rest = packed_weight xs in
    omega (arith, rest, length-append (packed (map (λ (item : List ℕ). Some item) xs)) x)

pub taken_weight : (xs : List (List ℕ)) → taken (map (λ item. Some item) xs) ≡ weight xs
taken_weight xs = ap (λ (n : ℕ). 4 * n + length (packed (map (λ (item : List ℕ). Some item) xs))) (same_length xs) ∙ packed_weight xs
  where
    same_length : (xs : List (List ℕ)) → length (map (λ (item : List ℕ). Some item) xs) ≡ length xs
    same_length [] = refl
    same_length (x ∷ xs) = ap (λ (n : ℕ). suc n) (same_length xs)

weight_bound : (bound : ℕ) (xs : List (List ℕ)) → AllByRecursion (λ item. 4 + length item ≤ bound) xs → weight xs ≤ bound * length xs
weight_bound bound [] each = omega arith
weight_bound bound (x ∷ xs) each =
    let rest = weight_bound bound xs each.1 in
    let here = each.0 in
    let more : bound * suc (length xs) ≡ bound + bound * length xs = omega arith in
    omega (arith, rest, here, more)

many_left : (bound least place w : ℕ) → bound * least ≤ 4088 → w ≤ bound * place → 4088 < w → least ≤ place
many_left bound least place w many few more =
    ⊎_elim
    (λ low. absurd (
    let low' : place ≤ least = omega (arith, low) in
    let times = mul-le-mul_left bound low' in
    omega (arith, times, many, few, more)))
    (λ high. high)
    (cases_lt place least)

many_right : (bound least n w : ℕ) → bound * least ≤ 4088 → w ≤ bound * n → 4088 < w + bound → least ≤ n
many_right bound least n w many few more =
    ⊎_elim
    (λ low. absurd (
    let low' : n + 1 ≤ least = omega (arith, low) in
    let times = mul-le-mul_left bound low' in
    let step : bound * (n + 1) ≡ bound * n + bound = omega arith in
    omega (arith, times, many, few, more, step)))
    (λ high. high)
    (cases_lt n least)

module _ (items : List (List ℕ)) (place least : ℕ) (middle : IsMiddle items place) (can : CanSplit least items) (full : 8176 < weight items) where
  q : ℕ
  q = place - 1

  at_q : q + 1 ≡ place
  unfolding q
  at_q = let some = middle.some in omega (arith, some)

  below_q : q < length items
  unfolding q
  below_q = let some = middle.some in let within = middle.within in omega (arith, some, within)

  spot : At items q
  spot = at_place items q below_q

  whole : weight items ≡ weight (take place items) + weight (drop place items)
  whole = ap (λ (l : List (List ℕ)). weight l) (sym (take-append-drop place items)) ∙ weight-append (take place items) (drop place items)

  first_all : AllByRecursion (λ item. 4 + length item ≤ can.bound) (take place items)
  first_all = feet.all_left (λ (item : List ℕ). 4 + length item ≤ can.bound) (take place items) (drop place items)
      (subst (λ (l : List (List ℕ)). AllByRecursion (λ (item : List ℕ). 4 + length item ≤ can.bound) l) (sym (take-append-drop place items)) can.each)

  last_all : AllByRecursion (λ item. 4 + length item ≤ can.bound) (drop place items)
  last_all = feet.all_right (λ (item : List ℕ). 4 + length item ≤ can.bound) (take place items) (drop place items)
      (subst (λ (l : List (List ℕ)). AllByRecursion (λ (item : List ℕ). 4 + length item ≤ can.bound) l) (sym (take-append-drop place items)) can.each)

  -- the first items have half of the bytes, and at most one item more
  first_weight : 2 * weight (take place items) < weight items + 2 * can.bound
  unfolding spot
  first_weight =
      let cut : weight (take (q + 1) items) ≡ weight (take q items) + weight (spot.item ∷ []) =
      ap (λ (l : List (List ℕ)). weight l) spot.more ∙ weight-append (take q items) (spot.item ∷ []) in
      let here : weight (take place items) ≡ weight (take q items) + weight (spot.item ∷ []) = ap (λ (n : ℕ). weight (take n items)) (sym at_q) ∙ cut in
      let one : 4 + length spot.item ≤ can.bound = all_place (λ (item : List ℕ). 4 + length item ≤ can.bound) items q below_q can.each in
      let low = middle.less q at_q in
      omega (arith, here, one, low)

  pub left_fits : weight (take place items) ≤ 8176
  left_fits = let a = first_weight in let b = can.room in let c = can.narrow in omega (arith, a, b, c)

  pub right_fits : weight (drop place items) ≤ 8176
  right_fits = let a = middle.half in let b = can.room in let c = can.narrow in omega (arith, whole, a, b, c)

  pub left_many : least ≤ place
  left_many =
      let size : length (take place items) ≡ place = length-take-le place items middle.within in
      let few : weight (take place items) ≤ can.bound * place =
      subst (λ (n : ℕ). weight (take place items) ≤ can.bound * n) size (weight_bound can.bound (take place items) first_all) in
      many_left can.bound least place (weight (take place items)) can.many few (let a = middle.half in omega (arith, a, full))

  pub right_many : least + place ≤ length items
  right_many =
      let size : length (drop place items) ≡ length items - place = length-drop place items in
      let within = middle.within in
      let enough : least ≤ length (drop place items) =
      many_right can.bound least (length (drop place items)) (weight (drop place items)) can.many (weight_bound can.bound (drop place items) last_all) (let a = first_weight in omega (arith, whole, a, full)) in
      omega (arith, enough, size, within)

pub weight_take : (n : ℕ) (xs : List (List ℕ)) → weight (take n xs) ≤ weight xs
weight_take n xs = omega (arith, ap (λ (l : List (List ℕ)). weight l) (sym (take-append-drop n xs)) ∙ weight-append (take n xs) (drop n xs))

-- one more item
pub below_at : {X : Type 0} (xs : List X) (at : ℕ) (item : X) → slice_get xs at ≡ Some item → at < length xs
below_at [] zero item is = absurd (let e : None ≡ Some item = is in cc)
below_at [] (suc at) item is = absurd (let e : None ≡ Some item = is in cc)
below_at (x ∷ xs) zero item is = omega arith
below_at (x ∷ xs) (suc at) item is = let rest = below_at xs at item is in omega (arith, rest)

pub more_at : {X : Type 0} (xs : List X) (at : ℕ) (item : X) → slice_get xs at ≡ Some item → take (at + 1) xs ≡ take at xs ++ item ∷ []
more_at [] zero item is = absurd (let e : None ≡ Some item = is in cc)
more_at [] (suc at) item is = absurd (let e : None ≡ Some item = is in cc)
more_at {X} (x ∷ xs) zero item is = let e : Some x ≡ Some item = is in let f : x ≡ item = cc in ap (λ (y : X). y ∷ []) f
more_at {X} (x ∷ xs) (suc at) item is =
    let rest = more_at xs at item is in
    rw (add-one) (let e = rw add-one at rest in ap (λ (l : List X). x ∷ l) e)

pub weight_more : (xs : List (List ℕ)) (at : ℕ) (item : List ℕ) → slice_get xs at ≡ Some item → weight (take (at + 1) xs) ≡ weight (take at xs) + (4 + length item)
weight_more xs at item is =
    let more = more_at xs at item is in
    let cut = ap (λ (l : List (List ℕ)). weight l) more ∙ weight-append (take at xs) (item ∷ []) in
    omega (arith, cut)

pub weight_upto : (items : List (List ℕ)) (at end : ℕ) → at ≤ end → weight (take at items) ≤ weight (take end items)
weight_upto items at end low =
    subst (λ (l : List (List ℕ)). weight l ≤ weight (take end items)) (take-take at end items low) (weight_take at (take end items))

pub weight_some : (items : List (List ℕ)) → 0 < length items → 0 < weight items
weight_some [] some = absurd (omega (arith, some))
weight_some (x ∷ items) some = omega arith

-- the items of a page so far
pub page_none : (items : List (List ℕ)) (from : ℕ) → drop from (take from items) ≡ []
page_none items from = drop_all from (take from items) (omega (arith, length-take from items))

pub page_more : (items : List (List ℕ)) (from at : ℕ) (item : List ℕ) → from ≤ at → slice_get items at ≡ Some item → drop from (take (at + 1) items) ≡ drop from (take at items) ++ item ∷ []
page_more items from at item low is =
    let below = below_at items at item is in
    ap (λ (l : List (List ℕ)). drop from l) (more_at items at item is) ∙ drop-append-le from (take at items) (item ∷ []) (omega (arith, low, length-take-le at items (omega (arith, below))))

weight_inside : (items : List (List ℕ)) (from middle : ℕ) → from ≤ middle → middle ≤ length items → weight (drop from (take middle items)) ≤ weight (drop from items)
weight_inside items from middle low few =
    let size = length-take-le middle items few in
    let cut : drop from items ≡ drop from (take middle items) ++ drop middle items =
    ap (λ (l : List (List ℕ)). drop from l) (sym (take-append-drop middle items)) ∙ drop-append-le from (take middle items) (drop middle items) (omega (arith, low, size)) in
    let sum = ap (λ (l : List (List ℕ)). weight l) cut ∙ weight-append (drop from (take middle items)) (drop middle items) in
    omega (arith, sum)

pub page_full : (items : List (List ℕ)) (from at end free : ℕ) (item : List ℕ) (made : List (Option (List ℕ))) → from ≤ at → at < end → end ≤ length items → slice_get items at ≡ Some item
    → made ≡ map (λ item. Some item) (drop from (take at items)) → free + taken made ≡ 8176 → free < 4 + length item → 8176 < weight (drop from (take end items))
page_full items from at end free item made low below within is made_is size small =
    let so_far : taken made ≡ weight (drop from (take at items)) = ap (λ (l : List (Option (List ℕ))). taken l) made_is ∙ taken_weight (drop from (take at items)) in
    let more = ap (λ (l : List (List ℕ)). weight l) (page_more items from at item low is) ∙ weight-append (drop from (take at items)) (item ∷ []) in
    let all : take (at + 1) (take end items) ≡ take (at + 1) items = take-take (at + 1) end items (omega (arith, below)) in
    let inside : weight (drop from (take (at + 1) (take end items))) ≤ weight (drop from (take end items)) =
    weight_inside (take end items) from (at + 1) (omega (arith, low)) (omega (arith, below, length-take-le end items within)) in
    let same = ap (λ (l : List (List ℕ)). weight (drop from l)) all in
    omega (arith, so_far, more, inside, same, size, small)

pub middle_here : (items : List (List ℕ)) (at next total : ℕ) (item : List ℕ) → slice_get items at ≡ Some item → total ≡ weight items → next ≡ weight (take (at + 1) items) → total ≤ 2 * next → 2 * weight (take at items) < weight items → IsMiddle items (at + 1)
middle_here items at next total item is all upto half less =
    let below = below_at items at item is in
    record {
      some = omega arith;
      within = omega (arith, below);
      half = omega (arith, all, upto, half);
      less = λ before same. let e : before ≡ at = omega (arith, same) in subst (λ (n : ℕ). 2 * weight (take n items) < weight items) (sym e) less;
    }
