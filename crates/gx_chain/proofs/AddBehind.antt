-- An item is added on a new page.
use Rattle.std.proofs.Common.{◌≡◌, ◌≢◌, inr, ℕ, ◌+◌, ◌-◌, ◌^◌, ◌<◌, ◌≤◌, min, List, [], ◌∷◌, ◌++◌, length, Option, Some, refl, sym, ◌∙◌, ap, subst, append_assoc, length-append, arith}
use Rattle.std.specs.List.{AllByRecursion}
use Rattle.std.proofs.lemmas.List.{length-map}
use Rattle.gx_words.specs.PageMap.{PageMap, with_page}
use Rattle.gx_pages.specs.declared.store.Pages.{Ghosts}
use Rattle.gx_pages.specs.Frees.{IsApart, IsFreeList, KeepsHeader, Taken}
use Rattle.gx_pages.specs.Footprints.{IsOutside, ChangesOnly, grown}
use Rattle.gx_pages.proofs.Footprints as feet
use Rattle.gx_slot.specs.Slots.{Slots, Fits, spelling, taken}
use Rattle.gx_chain.specs.declared.chain.Chain.{Chain}
use Rattle.gx_chain.specs.Chains.{Link, IsLink, AreLinked, Holds, HoldsBeside, HasRoom, entries_of, first_of, pages_of, slots}
use Rattle.gx_chain.proofs.AddHere.{Added}
use Rattle.gx_chain.proofs.Entries.{entries_append}
use Rattle.gx_chain.proofs.Links.{ends_of, pages_end, first_same, last_mid, linked_last, linked_some, linked_same, each_left}

module _ {P : Type 0} (g : Ghosts P) (old new : P) (kind : ℕ) (chain : Chain) (pages : ℕ) (item : List ℕ) (page slot : ℕ) (found : Slots) (middle : PageMap) (fresh end : List ℕ)
    (one : (s : Slots) → g.map old chain.last ≡ Some (spelling s) → Fits s → found ≡ s) (page_fits : page < 2 ^ 64)
    (fresh_is : fresh ≡ spelling (slots kind 0 (Some item ∷ []))) (fresh_fits : Fits (slots kind 0 (Some item ∷ []))) (end_is : end ≡ spelling (record found { next = page }))
    (full : 8176 < taken found.items + (4 + length item))
    (below : page < g.count new) (grows : g.count old ≤ g.count new) (header : KeepsHeader (g.map old) middle)
    (put : g.map new ≡ with_page (with_page middle page fresh) chain.last end)
    (place : slot ≡ 0) (bounded : g.count old ≤ 2 ^ 50) (more : pages ≡ min (chain.pages + 1) (2 ^ 64 - 1)) where
  abbrev longer : Chain
  longer = record { first = chain.first; last = page; pages = pages }

  module _ (free rest : List ℕ) (taken_page : Taken (g.map old) middle (g.count old) (g.count new) page free rest) (front : List Link) (items : List (Option (List ℕ)))
      (held : HoldsBeside g old kind chain (front ++ (chain.last, items) ∷ []) free) where
    abbrev before : List Link
    before = front ++ (chain.last, items) ∷ []

    abbrev after : List Link
    after = before ++ (page, Some item ∷ []) ∷ []

    link : IsLink (g.map old) kind 0 (chain.last, items)
    link = linked_last (g.map old) kind front (chain.last, items) held.held.linked

    is_slots : found ≡ slots kind 0 items
    is_slots = one (slots kind 0 items) link.is link.fits

    is_next : record found { next = page } ≡ slots kind page items
    is_next = ap (λ (s : Slots). record s { next = page }) is_slots

    apart_all : IsApart (pages_of before ++ page ∷ rest)
    apart_all = feet.taken_apart (g.map old) middle (g.count old) (g.count new) page free rest (pages_of before) taken_page held.apart
        (feet.all_join (λ (other : ℕ). other < g.count old) (pages_of before) free held.held.below held.frees.below)

    apart_last : IsApart (pages_of front ++ chain.last ∷ (page ∷ rest))
    apart_last = subst (λ (l : List ℕ). IsApart l) (ap (λ (l : List ℕ). l ++ page ∷ rest) (pages_end front (chain.last, items)) ∙ append_assoc (pages_of front) (chain.last ∷ []) (page ∷ rest)) apart_all

    last_other : chain.last ≢ page
    last_other = (feet.apart_behind (pages_of front) chain.last (page ∷ rest) apart_last).0

    put_other : (n : ℕ) → n ≢ chain.last → n ≢ page → g.map new n ≡ middle n
    put_other n not_last not_page =
        ap (λ (m : PageMap). m n) put ∙ feet.with_other (with_page middle page fresh) chain.last end n not_last ∙ feet.with_other middle page fresh n not_page

    only_two : ChangesOnly (g.map old) (g.map new) (chain.last ∷ page ∷ [])
    only_two n some outside = put_other n outside.0 outside.1.0 ∙ taken_page.others n some outside.1.0

    same_front : AllByRecursion (λ n. g.map new n ≡ g.map old n) (pages_of front)
    same_front =
        let some = subst (λ (l : List ℕ). AllByRecursion (λ (n : ℕ). n ≢ 0) l) (pages_end front (chain.last, items)) (linked_some (g.map old) kind 0 before held.held.linked) in
        feet.all_same (g.map old) (g.map new) (chain.last ∷ page ∷ []) (pages_of front) only_two
        (feet.all_left (λ (n : ℕ). n ≢ 0) (pages_of front) (chain.last ∷ []) some)
        (feet.all_weaker (λ (n : ℕ). IsOutside n (chain.last ∷ (page ∷ rest))) (λ (n : ℕ). IsOutside n (chain.last ∷ page ∷ [])) (pages_of front) (λ n out. (out.0, (out.1.0, tt)))
        (each_left (pages_of front) (chain.last ∷ (page ∷ rest)) apart_last))

    last_link : IsLink (g.map new) kind page (chain.last, items)
    last_link = record {
      some = link.some;
      is = ap (λ (m : PageMap). m chain.last) put ∙ feet.with_same (with_page middle page fresh) chain.last end ∙ ap (λ (l : List ℕ). Some l) (end_is ∙ ap (λ (s : Slots). spelling s) is_next);
      fits = record { kind = link.fits.kind; level = link.fits.level; next = page_fits; room = link.fits.room };
    }

    page_link : IsLink (g.map new) kind 0 (page, Some item ∷ [])
    page_link = record {
      some = taken_page.nonzero;
      is = ap (λ (m : PageMap). m page) put ∙ feet.with_other (with_page middle page fresh) chain.last end page (λ same. last_other (sym same))
          ∙ feet.with_same middle page fresh ∙ ap (λ (l : List ℕ). Some l) fresh_is;
      fits = fresh_fits;
    }

    regroup : after ≡ front ++ (chain.last, items) ∷ ((page, Some item ∷ []) ∷ [])
    regroup = append_assoc front ((chain.last, items) ∷ []) ((page, Some item ∷ []) ∷ [])

    feet_after : pages_of after ≡ pages_of before ++ page ∷ []
    feet_after = pages_end before (page, Some item ∷ [])

    feet_rest : pages_of after ++ rest ≡ pages_of before ++ page ∷ rest
    feet_rest = ap (λ (l : List ℕ). l ++ rest) feet_after ∙ append_assoc (pages_of before) (page ∷ []) rest

    apart_after : IsApart (pages_of after ++ rest)
    apart_after = subst (λ (l : List ℕ). IsApart l) (sym feet_rest) apart_all

    few : length before ≤ g.count old
    few = omega (arith, feet.apart_few (g.count old) (pages_of before) held.held.apart held.held.below, length-map before (λ (l : Link). l.0))

    new_holds : Holds (g.map new) (g.count new) kind longer after
    new_holds = record {
      linked = subst (λ (l : List Link). AreLinked (g.map new) kind l) (sym regroup)
          (linked_same (g.map old) (g.map new) kind front (chain.last, items) (chain.last, items) [] ((page, Some item ∷ []) ∷ []) refl same_front held.held.linked (last_link, (page_link, tt)));
      apart = feet.apart_left (pages_of after) rest apart_after;
      below = subst (λ (l : List ℕ). AllByRecursion (λ (n : ℕ). n < g.count new) l) (sym feet_after)
          (feet.all_join (λ (n : ℕ). n < g.count new) (pages_of before) (page ∷ [])
          (feet.all_weaker (λ (n : ℕ). n < g.count old) (λ (n : ℕ). n < g.count new) (pages_of before) (λ n here. omega arith) held.held.below) (below, tt));
      first = held.held.first ∙ first_same front (chain.last, items) (chain.last, items) [] ((page, Some item ∷ []) ∷ []) refl ∙ ap (λ (l : List Link). first_of l) (sym regroup);
      some = omega (arith, length-append before ((page, Some item ∷ []) ∷ []));
      last = sym (last_mid 0 before (page, Some item ∷ []) []);
      bound = (let at_most = held.held.bound in omega (arith, few, at_most, more, bounded, length-append before ((page, Some item ∷ []) ∷ [])));
    }

    new_frees : IsFreeList (g.map new) (g.count new) rest
    new_frees =
        subst (λ (m : PageMap). IsFreeList m (g.count new) rest) (sym put)
        (feet.free_list_put (with_page middle page fresh) (g.count new) chain.last end rest link.some (feet.apart_behind (pages_of front) chain.last (page ∷ rest) apart_last).1
        (feet.free_list_put middle (g.count new) page fresh rest taken_page.nonzero (feet.apart_behind (pages_of before) page rest apart_all) taken_page.frees))

    only : ChangesOnly (g.map old) (g.map new) (pages_of before ++ pages_of after)
    only n some outside =
        let one = feet.all_right (λ (other : ℕ). n ≢ other) (pages_of front) (chain.last ∷ [])
        (subst (λ (l : List ℕ). IsOutside n l) (pages_end front (chain.last, items)) (feet.all_left (λ (other : ℕ). n ≢ other) (pages_of before) (pages_of after) outside)) in
        let two = feet.all_right (λ (other : ℕ). n ≢ other) (pages_of before) (page ∷ [])
        (subst (λ (l : List ℕ). IsOutside n l) feet_after (feet.all_right (λ (other : ℕ). n ≢ other) (pages_of before) (pages_of after) outside)) in
        only_two n some (one.0, two)

    no_room : HasRoom items item → ⊥
    no_room room = let same = ap (λ (s : Slots). taken s.items) is_slots in omega (arith, room, full, same)

    behind : Added g old new kind chain longer page slot item before free
    behind = (
      after,
      rest,
      record { held = new_holds; frees = new_frees; apart = apart_after },
      record { front = front; last = (chain.last, items); was = refl; is = inr (no_room, place, refl) },
      entries_append before ((page, Some item ∷ []) ∷ []) ∙ ap (λ (n : ℕ). entries_of before ++ record { page = page; slot = n; item = item } ∷ []) (sym place),
      feet.keeps_of g old new (pages_of before) free (pages_of after) rest grows only
          (feet.header_same (g.map old) middle (g.map new) header (put_other 0 (λ same. link.some (sym same)) (λ same. taken_page.nonzero (sym same)))) new_frees
          (feet.same_pages (pages_of before ++ free ++ grown (g.count old) (g.count new)) (pages_of after ++ rest)
          (feet.taken_pages (g.map old) middle (g.count old) (g.count new) page free rest (pages_of before) taken_page ∙ sym feet_rest)),
      λ all. omega (arith, all, few, more, bounded, length-append before ((page, Some item ∷ []) ∷ [])),
    )

  pub added_behind : ((free : List ℕ) → IsFreeList (g.map old) (g.count old) free → (rest : List ℕ) × Taken (g.map old) middle (g.count old) (g.count new) page free rest)
      → (links : List Link) (free : List ℕ) → HoldsBeside g old kind chain links free → Added g old new kind chain longer page slot item links free
  added_behind takes links free held =
      let taken_page = takes free held.frees in
      let ends = ends_of (g.map old) (g.count old) kind chain links held.held in
      subst (λ (l : List Link). Added g old new kind chain longer page slot item l free) (sym ends.ends)
      (behind free taken_page.0 taken_page.1 ends.front ends.items (subst (λ (l : List Link). HoldsBeside g old kind chain l free) ends.ends held))
