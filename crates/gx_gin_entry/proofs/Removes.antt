-- A page of level 0 without one entry.
use Rattle.std.proofs.Common.{◌≡◌, ◌≢◌, ℕ, zero, suc, ◌+◌, ◌*◌, ◌<◌, ◌≤◌, List, [], ◌∷◌, ◌++◌, length, map, take, drop, slice_get, Option, Some, None, refl, sym, ◌∙◌, ap, subst, append_assoc, append-nil, length-append, arith}
use Rattle.std.specs.List.{AllByRecursion}
use Rattle.std.proofs.lemmas.List.{drop_at, length-map, map-append, map_push, take-append-drop, take-take, take_all, take_at}
use Rattle.gx_slot.specs.Slots.{Slots, packed, taken, with_item}
use Rattle.gx_tree.specs.Paging.{weight}
use Rattle.gx_tree.specs.Trees.{slots}
use Rattle.gx_tree.proofs.Weights.{below_at, page_more, page_none, taken_weight, weight-append, weight_more, weight_upto}
use Rattle.gx_gin_entry.specs.EntryTrees.{AreListed, Entry, entry_bytes}
use Rattle.gx_gin_entry.specs.Lists.{map_join}

packed_len : (xs ys : List (Option (List ℕ))) → length (packed (xs ++ ys)) ≡ length (packed xs) + length (packed ys)
packed_len [] ys = omega arith
packed_len (None ∷ xs) ys = packed_len xs ys
packed_len (Some x ∷ xs) ys = let rest = packed_len xs ys in omega (arith, rest, length-append (packed (xs ++ ys)) x, length-append (packed xs) x)

pub taken_append : (xs ys : List (Option (List ℕ))) → taken (xs ++ ys) ≡ taken xs + taken ys
taken_append xs ys = omega (arith, packed_len xs ys, length-append xs ys)

-- the items from one place on up to another
part_weight : (items : List (List ℕ)) (from end : ℕ) → from ≤ end → weight (take from items) + weight (drop from (take end items)) ≡ weight (take end items)
part_weight items from end order =
    let whole = ap (λ (l : List (List ℕ)). weight l) (take-append-drop from (take end items)) in
    let front = ap (λ (l : List (List ℕ)). weight l) (take-take from end items order) in
    omega (arith, whole, front, weight-append (take from (take end items)) (drop from (take end items)))

pub begins_none : (to : Slots) (items : List (List ℕ)) (from : ℕ) → to ≡ record to { items = to.items ++ map (λ item. Some item) (drop from (take from items)) }
begins_none to items from =
    ap (λ (l : List (Option (List ℕ))). record to { items = l }) (sym (append-nil to.items)) ∙ ap (λ (l : List (List ℕ)). record to { items = to.items ++ map (λ (i : List ℕ). Some i) l }) (sym (page_none items from))

pub goes_on : (to now new : Slots) (items : List (List ℕ)) (from slot : ℕ) (item : List ℕ) → from ≤ slot → slice_get items slot ≡ Some item → now ≡ record to { items = to.items ++ map (λ item. Some item) (drop from (take slot items)) }
    → new ≡ with_item now (Some item) → new ≡ record to { items = to.items ++ map (λ item. Some item) (drop from (take (slot + 1) items)) }
goes_on to now new items from slot item low at so_far added =
    let some : List (List ℕ) → List (Option (List ℕ)) = λ (l : List (List ℕ)). map (λ (i : List ℕ). Some i) l in
    added ∙ ap (λ (s : Slots). with_item s (Some item)) so_far
    ∙ ap (λ (l : List (Option (List ℕ))). record to { items = l })
    (append_assoc to.items (some (drop from (take slot items))) (Some item ∷ [])
    ∙ ap (λ (l : List (Option (List ℕ))). to.items ++ l) (sym (map_push (λ (i : List ℕ). Some i) (drop from (take slot items)) item) ∙ ap (λ (l : List (List ℕ)). some l) (sym (page_more items from slot item low at))))

pub has_room : (to now : Slots) (items : List (List ℕ)) (from slot end free : ℕ) (item : List ℕ) → from ≤ slot → slot < end → end ≤ length items → slice_get items slot ≡ Some item
    → now ≡ record to { items = to.items ++ map (λ item. Some item) (drop from (take slot items)) } → free + taken now.items ≡ 8176 → free < 4 + length item
    → taken to.items + weight (drop from (take end items)) ≤ 8176 → ⊥
has_room to now items from slot end free item low below within at so_far size small room =
    let part = drop from (take slot items) in
    let now_is = ap (λ (s : Slots). taken s.items) so_far ∙ taken_append to.items (map (λ (i : List ℕ). Some i) part) in
    let part_is = taken_weight part in
    let one = part_weight items from slot low in
    let all = part_weight items from end (omega (arith, low, below)) in
    let more = weight_more items slot item at in
    let upto = weight_upto items (slot + 1) end (omega (arith, below)) in
    omega (arith, now_is, part_is, one, all, more, upto, size, small, room)

module _ (its : List (Option (List ℕ))) (list front back : List Entry) (entry : Entry) (listed : AreListed its list) (cut : list ≡ front ++ entry ∷ back) (slot : ℕ) (at : slot ≡ length front) where
  abbrev pub all_items : List (List ℕ)
  all_items = map entry_bytes list

  items_cut : all_items ≡ map entry_bytes front ++ entry_bytes entry ∷ map entry_bytes back
  items_cut = ap (λ (l : List Entry). map entry_bytes l) cut ∙ map_join front (entry ∷ back)

  pub slot_below : slot < length all_items
  slot_below = let size = ap (λ (l : List (List ℕ)). length l) items_cut in omega (arith, size, at, length-append (map entry_bytes front) (entry_bytes entry ∷ map entry_bytes back), length-map front entry_bytes)

  front_items : take slot all_items ≡ map entry_bytes front
  front_items = ap (λ (l : List (List ℕ)). take slot l) items_cut ∙ take_at (map entry_bytes front) (entry_bytes entry ∷ map entry_bytes back) slot (length-map front entry_bytes ∙ sym at)

  back_items : drop (slot + 1) all_items ≡ map entry_bytes back
  back_items =
      ap (λ (l : List (List ℕ)). drop (slot + 1) l) (items_cut ∙ sym (append_assoc (map entry_bytes front) (entry_bytes entry ∷ []) (map entry_bytes back)))
      ∙ drop_at (map entry_bytes front ++ entry_bytes entry ∷ []) (map entry_bytes back) (slot + 1) (omega (arith, at, length-append (map entry_bytes front) (entry_bytes entry ∷ []), length-map front entry_bytes))

  whole_weight : weight (take slot all_items) + weight (drop (slot + 1) all_items) ≤ taken its
  whole_weight =
      let a = ap (λ (l : List (List ℕ)). weight l) front_items in
      let b = ap (λ (l : List (List ℕ)). weight l) back_items in
      let all = ap (λ (l : List (List ℕ)). weight l) items_cut ∙ weight-append (map entry_bytes front) (entry_bytes entry ∷ map entry_bytes back) in
      let has = ap (λ (l : List (Option (List ℕ))). taken l) listed.is ∙ taken_weight all_items in
      omega (arith, a, b, all, has)

  pub first_room : (made : Slots) (kind free : ℕ) → made ≡ slots kind 0 [] → free + taken its ≡ 8176 → taken made.items + weight (drop 0 (take slot all_items)) ≤ 8176
  first_room made kind free is size =
      let none = ap (λ (s : Slots). taken s.items) is in
      let fits = whole_weight in
      omega (arith, none, fits, size)

  module _ (made second : Slots) (kind count free : ℕ) (first : made ≡ slots kind 0 []) (many : count ≡ length its) (next : second ≡ record made { items = made.items ++ map (λ item. Some item) (drop 0 (take slot all_items)) }) where
    count_is : count ≡ length all_items
    count_is = many ∙ ap (λ (l : List (Option (List ℕ))). length l) listed.is ∙ length-map all_items (λ (i : List ℕ). Some i)

    pub count_low : count ≤ length all_items
    count_low = let c = count_is in omega (arith, c)

    pub slot_low : slot + 1 ≤ count
    slot_low = let c = count_is in let b = slot_below in omega (arith, c, b)

    second_is : second ≡ slots kind 0 (map (λ item. Some item) (map entry_bytes front))
    second_is =
        next ∙ ap (λ (s : Slots). record s { items = s.items ++ map (λ (i : List ℕ). Some i) (drop 0 (take slot all_items)) }) first
        ∙ ap (λ (l : List (List ℕ)). slots kind 0 (map (λ (i : List ℕ). Some i) l)) front_items

    rest_is : drop (slot + 1) (take count all_items) ≡ map entry_bytes back
    rest_is = ap (λ (l : List (List ℕ)). drop (slot + 1) l) (take_all count all_items (let c = count_is in omega (arith, c))) ∙ back_items

    pub second_room : free + taken its ≡ 8176 → taken second.items + weight (drop (slot + 1) (take count all_items)) ≤ 8176
    second_room size =
        let a = ap (λ (s : Slots). taken s.items) second_is ∙ taken_weight (map entry_bytes front) in
        let b = ap (λ (l : List (List ℕ)). weight l) rest_is in
        let c = ap (λ (l : List (List ℕ)). weight l) front_items in
        let d = ap (λ (l : List (List ℕ)). weight l) back_items in
        let fits = whole_weight in
        omega (arith, a, b, c, d, fits, size)

    pub third_is : (third : Slots) → third ≡ record second { items = second.items ++ map (λ item. Some item) (drop (slot + 1) (take count all_items)) } → third ≡ slots kind 0 (map (λ item. Some item) (map entry_bytes (front ++ back)))
    third_is third last =
        let some : List (List ℕ) → List (Option (List ℕ)) = λ (l : List (List ℕ)). map (λ (i : List ℕ). Some i) l in
        last ∙ ap (λ (l : List (List ℕ)). record second { items = second.items ++ some l }) rest_is
        ∙ ap (λ (s : Slots). record s { items = s.items ++ some (map entry_bytes back) }) second_is
        ∙ ap (λ (l : List (Option (List ℕ))). slots kind 0 l) (sym (map-append (λ (i : List ℕ). Some i) (map entry_bytes front) (map entry_bytes back)) ∙ ap (λ (l : List (List ℕ)). some l) (sym (map_join front back)))
