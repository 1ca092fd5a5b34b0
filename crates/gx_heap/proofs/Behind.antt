-- Where one more row stands.
use Rattle.std.proofs.Common.{◌≡◌, inl, inr, ⊎_elim, ℕ, ◌+◌, ◌≤◌, List, [], ◌∷◌, ◌++◌, length, Option, Some, refl, sym, ◌∙◌, ap, subst, arith}
use Rattle.gx_words.specs.PageMap.{PageMap}
use Rattle.gx_slot.specs.Slots.{Slots, Fits, spelling, taken}
use Rattle.gx_chain.specs.Chains.{AreLinked, Adds, HasRoom, Holds, IsLink, Link, last_to, pages_of, slots}
use Rattle.gx_chain.proofs.Links.{ends_of, last_mid, linked_last, one_spelled, pages_end}
use Rattle.gx_heap.specs.declared.heap.Heap.{Heap}
use Rattle.gx_heap.specs.Heaps.{HasRoomFor, StandsBehind, chain_of}

-- the last page's items are known by its bytes
last_items : (map : PageMap) (page : ℕ) (items others : List (Option (List ℕ))) → IsLink map 2 0 (page, items) → map page ≡ Some (spelling (slots 2 0 others)) → Fits (slots 2 0 others) → others ≡ items
last_items map page items others link is fits = ap (λ (s : Slots). s.items) (one_spelled (map page) (slots 2 0 others) (slots 2 0 items) is fits link.is link.fits)

room_back : (map : PageMap) (heap : Heap) (page : ℕ) (items : List (Option (List ℕ))) (item row : List ℕ) → length item ≡ 8 + length row → heap.last ≡ page → IsLink map 2 0 (page, items)
    → HasRoomFor map heap row → HasRoom items item
room_back map heap page items item row long at link has =
    let same : has.0 ≡ items = last_items map page items has.0 link (subst (λ (n : ℕ). map n ≡ Some (spelling (slots 2 0 has.0))) at has.1) has.2 in
    let room : taken items + (12 + length row) ≤ 8176 = subst (λ (l : List (Option (List ℕ))). taken l + (12 + length row) ≤ 8176) same has.3 in
    omega (arith, room, long)

module _ (map : PageMap) (count : ℕ) (heap : Heap) (links : List Link) (held : Holds map count 2 (chain_of heap) links) (item row : List ℕ) (long : length item ≡ 8 + length row) where
  pub no_room : ((front : List Link) (items : List (Option (List ℕ))) → Holds map count 2 (chain_of heap) (front ++ (heap.last, items) ∷ []) → ¬ HasRoom items item) → HasRoomFor map heap row → ⊥
  no_room none has =
      let ends = ends_of map count 2 (chain_of heap) links held in
      let link = linked_last map 2 ends.front (heap.last, ends.items) (subst (λ (l : List Link). AreLinked map 2 l) ends.ends held.linked) in
      none ends.front ends.items (subst (λ (l : List Link). Holds map count 2 (chain_of heap) l) ends.ends held) (room_back map heap heap.last ends.items item row long refl link has)

  pub stands_behind : (later : List Link) (page slot : ℕ) → Adds links later page slot item → StandsBehind map heap row page (pages_of links) (pages_of later)
  stands_behind later page slot adds =
      let link : IsLink map 2 0 adds.last = linked_last map 2 adds.front adds.last (subst (λ (l : List Link). AreLinked map 2 l) adds.was held.linked) in
      let at : heap.last ≡ adds.last.0 = held.last ∙ ap (λ (l : List Link). last_to 0 l) adds.was ∙ last_mid 0 adds.front adds.last [] in
      ⊎_elim
      (λ here. inl (
        (
          adds.last.1,
          subst (λ (n : ℕ). map n ≡ Some (spelling (slots 2 0 adds.last.1))) (sym at) link.is,
          link.fits,
          (let room = here.0 in omega (arith, room, long)),
        ),
        here.1 ∙ sym at,
        ap (λ (l : List Link). pages_of l) here.3 ∙ pages_end adds.front (page, adds.last.1 ++ Some item ∷ []) ∙ ap (λ (n : ℕ). pages_of adds.front ++ n ∷ []) here.1
            ∙ sym (pages_end adds.front adds.last) ∙ ap (λ (l : List Link). pages_of l) (sym adds.was),
      ))
      (λ new. inr (
        (λ has. new.0 (room_back map heap adds.last.0 adds.last.1 item row long at link has)),
        ap (λ (l : List Link). pages_of l) new.2 ∙ pages_end links (page, Some item ∷ []),
      ))
      adds.is
